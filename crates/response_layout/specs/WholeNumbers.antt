-- A header's 48 bytes from whole numbers. This file follows the code, and who reviews the rules doesn't need it: `header_bytes` of
-- response_header/specs/Response has them.
use Rattle.std.specs.Prelude.{ℕ, List, ◌++◌}
use Rattle.field.specs.Field.{bytes_of, pick}
use Rattle.response_header.specs.declared.Numbers.{Numbers}
use Rattle.response_layout.specs.declared.OwnFields.{OwnFields}

-- the StatSN that stands in the header: 0 in Data-In
abbrev pub stat_sn_of : OwnFields → Numbers → ℕ
stat_sn_of o n = pick o.has_stat_sn n.stat_sn 0

-- a response's own numbers, and between them the three that all carry
unfoldable pub own_bytes : OwnFields → Numbers → List ℕ
own_bytes o n =
    bytes_of 8 o.at_0 ++ (bytes_of 8 o.at_8 ++ (bytes_of 8 o.at_16
    ++ (bytes_of 4 (stat_sn_of o n) ++ (bytes_of 4 n.exp_cmd_sn ++ (bytes_of 4 n.max_cmd_sn ++ (bytes_of 4 o.at_36 ++ bytes_of 8 o.at_40))))))
