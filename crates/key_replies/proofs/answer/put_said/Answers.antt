use Rattle.key_replies.proofs.Said.{answer-put}
use Rattle.key_replies.proofs.answer.put_said.Goals as goal

pub returns-in_default : goal.returns-in_default
returns-in_default c =
    rw (← c.reply_of.ensures)
    (answer-put c.reply_of.result c.in_default.not-Silent c.append-named.ensures c.put_reply-end.ensures c.append.ensures)
