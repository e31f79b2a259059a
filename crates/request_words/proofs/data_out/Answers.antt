-- The attribute proves it too, but then edits of this function may only be given up on at a limit, and not seen to be wrong.
use Rattle.request_header.specs.Request.{pdu_of, request_of}
use Rattle.request_words.specs.RequestWords.{common_words, own_words, opcode_word}
use Rattle.request_words.proofs.Reading.{kind-read, be-one, and-false}
use Rattle.request_words.proofs.data_out.Goals as goal

pub returns : goal.returns
unfolding common_words own_words opcode_word pdu_of request_of
returns c m =
    kind-read _ _ _ _ _ _ (c.data_out_ok.ensures m) c.if-not-data_out_ok.false _ _
    (rw (c.put_common.ensures, c.be.ensures.0, and-false))
    (rw (
      c.bit_word.ensures,
      c.be-2.ensures.0,
      be-one,
      c.be-3.ensures.0,
      c.be-4.ensures.0,
      c.be-5.ensures.0,
    ))
