-- What a connection's PDUs are read by, and the longest data that is written on it: today the same for each.
use Rattle.std.specs.Prelude.{ℕ}
use Rattle.request_header.specs.Request.{limits}
use Rattle.request_header.specs.declared.Limits.{Limits}
use Rattle.response_header.specs.Response.{max_data_length}
use Rattle.session_state.specs.declared.Session.{Session}

abbrev pub limits_of : Session → (connection : ℕ) → Limits
limits_of s c = limits

abbrev pub longest_of : Session → (connection : ℕ) → ℕ
longest_of s c = max_data_length
