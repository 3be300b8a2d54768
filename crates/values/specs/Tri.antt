-- And, or and not of yes, no and open. Assumes nothing.
use Rattle.std.specs.Prelude.{Bool, true, false}
use Rattle.values.specs.declared.tri.Tri.{Tri}
use Rattle.values.specs.declared.tri.Tri.TheVariants.{No, Open, Yes}

abbrev pub not_tri : Tri → Tri
not_tri No = Yes
not_tri Open = Open
not_tri Yes = No

-- no decides an and; else open decides
abbrev pub and_tri : Tri → Tri → Tri
and_tri No b = No
and_tri Open No = No
and_tri Open Open = Open
and_tri Open Yes = Open
and_tri Yes b = b

-- yes decides an or; else open decides
abbrev pub or_tri : Tri → Tri → Tri
or_tri Yes b = Yes
or_tri Open No = Open
or_tri Open Open = Open
or_tri Open Yes = Yes
or_tri No b = b

abbrev pub sure : Bool → Tri
sure true = Yes
sure false = No

abbrev pub is_yes : Tri → Bool
is_yes No = false
is_yes Open = false
is_yes Yes = true

abbrev pub is_no : Tri → Bool
is_no No = true
is_no Open = false
is_no Yes = false

abbrev pub is_open : Tri → Bool
is_open No = false
is_open Open = true
is_open Yes = false
