-- The known keys: their names, what each is, and the table of twelve with rule, range and standard value.
use Rattle.std.specs.Prelude.{ℕ, suc, Bool, true, false, List, [], ◌∷◌, map, get_or, replicate, Option, None, Some, slice_get}
use Prim.Native.String.{String}
use Rattle.text.specs.Text.{pick, bytes, same}
use Rattle.key_table.specs.declared.table.Key.{Key}
use Rattle.key_table.specs.declared.table.Key.TheVariants as Name
use Rattle.key_table.specs.declared.table.Kind.{Kind}
use Rattle.key_table.specs.declared.table.Kind.TheVariants as K
use Rattle.key_table.specs.declared.table.Rule.{Rule}
use Rattle.key_table.specs.declared.table.Rule.TheVariants as R
use Rattle.key_table.specs.declared.table.Row.{Row}
use Rattle.key_table.specs.declared.parameters.Settled.{Settled}

pub record Known : Type 0 where
  pub name : List ℕ
  pub kind : Kind

abbrev pub key : String → Kind → Known
key n k = record { name = bytes n; kind = k }

-- The table's keys, HeaderDigest, DataDigest and TaskReporting; AuthMethod; InitiatorName, TargetName, SessionType, InitiatorAlias;
-- the markers; and those that are refused. A key is named by its place here.
unfoldable pub known : List Known
known =
    key "MaxConnections" K.Negotiated
    ∷ key "MaxOutstandingR2T" K.Negotiated
    ∷ key "InitialR2T" K.Negotiated
    ∷ key "DataPDUInOrder" K.Negotiated
    ∷ key "DataSequenceInOrder" K.Negotiated
    ∷ key "ImmediateData" K.Negotiated
    ∷ key "MaxRecvDataSegmentLength" K.Declared
    ∷ key "MaxBurstLength" K.Negotiated
    ∷ key "FirstBurstLength" K.Negotiated
    ∷ key "DefaultTime2Wait" K.Negotiated
    ∷ key "DefaultTime2Retain" K.Negotiated
    ∷ key "ErrorRecoveryLevel" K.Negotiated
    ∷ key "HeaderDigest" K.Digest
    ∷ key "DataDigest" K.Digest
    ∷ key "TaskReporting" K.TaskReporting
    ∷ key "AuthMethod" K.AuthMethod
    ∷ key "InitiatorName" K.InitiatorName
    ∷ key "TargetName" K.TargetName
    ∷ key "SessionType" K.SessionType
    ∷ key "InitiatorAlias" K.InitiatorAlias
    ∷ key "IFMarker" K.Marker
    ∷ key "OFMarker" K.Marker
    ∷ key "IFMarkInt" K.Marker
    ∷ key "OFMarkInt" K.Marker
    ∷ key "TargetAlias" K.Refused
    ∷ key "TargetAddress" K.Refused
    ∷ key "TargetPortalGroupTag" K.Refused
    ∷ key "SendTargets" K.Refused
    ∷ []

-- the first place of a name among these; their count where it is none of them
abbrev pub place_in : List ℕ → List Known → ℕ
place_in n [] = 0
place_in n (x ∷ xs) = pick (same n x.name) 0 (suc (place_in n xs))

-- the key of a name, compared whole and with case; 28 for a name that is not known
unfoldable pub key_of : List ℕ → ℕ
key_of n = place_in n known

-- the place of a key in the order of the names
abbrev pub place_of_key : Key → ℕ
place_of_key Name.MaxConnections = 0
place_of_key Name.MaxOutstandingR2t = 1
place_of_key Name.InitialR2t = 2
place_of_key Name.DataPduInOrder = 3
place_of_key Name.DataSequenceInOrder = 4
place_of_key Name.ImmediateData = 5
place_of_key Name.MaxRecvDataSegmentLength = 6
place_of_key Name.MaxBurstLength = 7
place_of_key Name.FirstBurstLength = 8
place_of_key Name.DefaultTime2Wait = 9
place_of_key Name.DefaultTime2Retain = 10
place_of_key Name.ErrorRecoveryLevel = 11
place_of_key Name.HeaderDigest = 12
place_of_key Name.DataDigest = 13
place_of_key Name.TaskReporting = 14
place_of_key Name.AuthMethod = 15
place_of_key Name.InitiatorName = 16
place_of_key Name.TargetName = 17
place_of_key Name.SessionType = 18
place_of_key Name.InitiatorAlias = 19
place_of_key Name.IfMarker = 20
place_of_key Name.OfMarker = 21
place_of_key Name.IfMarkInt = 22
place_of_key Name.OfMarkInt = 23
place_of_key Name.TargetAlias = 24
place_of_key Name.TargetAddress = 25
place_of_key Name.TargetPortalGroupTag = 26
place_of_key Name.SendTargets = 27

-- the keys in that order
abbrev pub keys_in_order : List Key
keys_in_order =
    Name.MaxConnections
    ∷ Name.MaxOutstandingR2t
    ∷ Name.InitialR2t
    ∷ Name.DataPduInOrder
    ∷ Name.DataSequenceInOrder
    ∷ Name.ImmediateData
    ∷ Name.MaxRecvDataSegmentLength
    ∷ Name.MaxBurstLength
    ∷ Name.FirstBurstLength
    ∷ Name.DefaultTime2Wait
    ∷ Name.DefaultTime2Retain
    ∷ Name.ErrorRecoveryLevel
    ∷ Name.HeaderDigest
    ∷ Name.DataDigest
    ∷ Name.TaskReporting
    ∷ Name.AuthMethod
    ∷ Name.InitiatorName
    ∷ Name.TargetName
    ∷ Name.SessionType
    ∷ Name.InitiatorAlias
    ∷ Name.IfMarker
    ∷ Name.OfMarker
    ∷ Name.IfMarkInt
    ∷ Name.OfMarkInt
    ∷ Name.TargetAlias
    ∷ Name.TargetAddress
    ∷ Name.TargetPortalGroupTag
    ∷ Name.SendTargets
    ∷ []

-- the key in a place, none behind the last
unfoldable pub key_at : ℕ → Option Key
key_at k = slice_get keys_in_order k

-- the place of a key that was looked for, 28 where none was found
abbrev pub place_of_found : Option Key → ℕ
place_of_found None = 28
place_of_found (Some k) = place_of_key k

unfoldable pub name_at : ℕ → List ℕ
name_at k = (get_or known k (key "" K.Refused)).name

unfoldable pub kind_at : ℕ → Kind
kind_at k = (get_or known k (key "" K.Refused)).kind

-- |Key|Rule|Range|Standard value|, then ours: the standard value but for MaxConnections (4) and ErrorRecoveryLevel (1)
abbrev pub row : Rule → ℕ → ℕ → ℕ → ℕ → Row
row r a b s o = record { rule = r; low = a; high = b; standard = s; ours = o }

unfoldable pub rows : List Row
rows =
    row R.Least 1 65535 1 4
    ∷ row R.Least 1 65535 1 1
    ∷ row R.Or 0 1 1 1
    ∷ row R.Or 0 1 1 1
    ∷ row R.Or 0 1 1 1
    ∷ row R.And 0 1 1 1
    ∷ row R.Declared 512 16777215 8192 8192
    ∷ row R.Least 512 16777215 262144 262144
    ∷ row R.Least 512 16777215 65536 65536
    ∷ row R.Greatest 0 3600 2 2
    ∷ row R.Least 0 3600 20 20
    ∷ row R.Least 0 2 0 1
    ∷ []

unfoldable pub row_at : ℕ → Row
row_at k = get_or rows k (row R.Declared 0 0 0 0)

-- the standard values, and ours, in the order of the table
unfoldable pub standards : List ℕ
standards = map (λ (r : Row). r.standard) rows

unfoldable pub own : List ℕ
own = map (λ (r : Row). r.ours) rows

abbrev pub is_bool : Rule → Bool
is_bool R.Least = false
is_bool R.Greatest = false
is_bool R.Or = true
is_bool R.And = true
is_bool R.Declared = false

-- before any key came every standard value is in force
unfoldable pub none_seen : Settled
none_seen = record { seen = replicate 28 false; parameters = record { values = standards } }
