-- The starred cases of paper 01 are what the definitions compute.
use mathlib.Core.Path.{◌≡◌, refl}
use Rattle.field.specs.Field.{be_at, bytes_of}
use Rattle.request_header.specs.Request.{read_pdu, known, stated_length, shared_ok, rule_ok, judged, pdu_of, request_of}
use Rattle.response_header.specs.Response.{refusal_in, header_bytes, kind_fields}
use Rattle.window.specs.Book as W
use Rattle.ledger.specs.Book as L
use Rattle.book.specs.Book.{share, fresh_book, opened_by, written, conn_of, with_conn, with_window, by_window, on_open, on_connection, lending, offer_by, send_as, send_by, snack_by, step_of_run, reply_to, book_step}
use Rattle.book.specs.Events.{booked, book_run, book_after}
use Rattle.book.specs.Starred.{table, turns, answers_of, fresh, found, expected}

pub starred : found table ≡ expected table
unfolding table share turns opened_by written answers_of fresh found expected book_run book_after booked book_step fresh_book on_connection on_open conn_of
    with_conn with_window by_window lending offer_by send_as send_by snack_by step_of_run reply_to read_pdu known stated_length shared_ok rule_ok judged pdu_of
    request_of be_at bytes_of refusal_in header_bytes kind_fields W.fresh_book W.book_step W.distance W.next W.offer_step W.offer_at W.keeping W.was_handed_out
    W.take_step W.first_place W.handed_on W.exp_cmd_sn_of W.max_cmd_sn_of W.gapless L.fresh_ledger L.sending L.is_full L.header_for L.sent L.run_of L.run_at
    L.oldest L.place
starred = refl
