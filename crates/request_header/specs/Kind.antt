-- Which of the seven kinds a request is. A rule that looks at one kind, or at some, goes through here, so that a further kind is added in one place.
use Rattle.request_header.specs.declared.Login.{Login}
use Rattle.request_header.specs.declared.DataOut.{DataOut}
use Rattle.request_header.specs.declared.Snack.{Snack}
use Rattle.request_header.specs.declared.Request.{Request}
use Rattle.request_header.specs.declared.Request.TheVariants as R

pub data RequestKind : Type 0 where
  nopOut scsiCommand taskManagement login data_out logout snack : RequestKind

-- the kind of a request
abbrev pub kind_of : Request → RequestKind
kind_of (R.NopOut x) = nopOut
kind_of (R.ScsiCommand x) = scsiCommand
kind_of (R.TaskManagement x) = taskManagement
kind_of (R.Login x) = login
kind_of (R.DataOut x) = data_out
kind_of (R.Logout x) = logout
kind_of (R.Snack x) = snack

-- f of a Login's fields, d of any other kind
abbrev pub if_login {ℓ} : {A : Type ℓ} → (Login → A) → A → Request → A
if_login f d (R.NopOut x) = d
if_login f d (R.ScsiCommand x) = d
if_login f d (R.TaskManagement x) = d
if_login f d (R.Login x) = f x
if_login f d (R.DataOut x) = d
if_login f d (R.Logout x) = d
if_login f d (R.Snack x) = d

-- f of a Data-Out's fields, d of any other kind
abbrev pub if_data_out {ℓ} : {A : Type ℓ} → (DataOut → A) → A → Request → A
if_data_out f d (R.NopOut x) = d
if_data_out f d (R.ScsiCommand x) = d
if_data_out f d (R.TaskManagement x) = d
if_data_out f d (R.Login x) = d
if_data_out f d (R.DataOut x) = f x
if_data_out f d (R.Logout x) = d
if_data_out f d (R.Snack x) = d

-- f of a SNACK's fields, d of any other kind
abbrev pub if_snack {ℓ} : {A : Type ℓ} → (Snack → A) → A → Request → A
if_snack f d (R.NopOut x) = d
if_snack f d (R.ScsiCommand x) = d
if_snack f d (R.TaskManagement x) = d
if_snack f d (R.Login x) = d
if_snack f d (R.DataOut x) = d
if_snack f d (R.Logout x) = d
if_snack f d (R.Snack x) = f x
