-- The attribute proves it too, but then the edit of this function is only given up on at a limit, and not seen to be wrong.
use Rattle.request_header.specs.Request.{pdu_of, request_of}
use Rattle.request_header.proofs.FieldRules.{and-true}
use Rattle.request_words.specs.RequestWords.{common_words, own_words, opcode_word}
use Rattle.request_words.proofs.Reading.{kind-read, be-one}
use Rattle.pdu_words.proofs.task_management.Goals as goal

pub returns : goal.returns
unfolding common_words own_words opcode_word pdu_of request_of
returns c =
    kind-read _ _ _ _ _ _ c.task_management_ok.ensures c.if-not-task_management_ok.false _ _
    (rw (
      c.put_common.ensures,
      c.immediate.ensures,
      c.be.ensures.0,
      c.be-2.ensures.0,
      and-true,
    ))
    (rw (
      c.be-3.ensures.0,
      be-one,
      c.be-4.ensures.0,
      c.be-5.ensures.0,
      c.be-6.ensures.0,
    ))
