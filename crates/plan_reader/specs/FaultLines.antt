-- The line that a refusal of a plan file is printed as: its variant's name, and for each field a space, its name, `=` and its value.
use Rattle.std.specs.Prelude.{ℕ, List, ◌++◌, codes, decimal}
use Rattle.std.specs.Fmt.{signed_decimal}
use Rattle.plan_reader.specs.declared.fault.FieldWhy.{FieldWhy}
use Rattle.plan_reader.specs.declared.fault.FieldWhy.TheVariants.{Missing, WrongType, BadWord, Unknown, Both}
use Rattle.plan_reader.specs.declared.fault.TapWhy.{TapWhy}
use Rattle.plan_reader.specs.declared.fault.TapWhy.TheVariants.{NotNumber, TooLarge}
use Rattle.plan_reader.specs.declared.fault.PlanReadFault.{PlanReadFault}
use Rattle.plan_reader.specs.declared.fault.PlanReadFault.TheVariants.{NotToml, Field, Version, Memory}

abbrev pub field_why_text : FieldWhy → List ℕ
field_why_text Missing = codes "Missing"
field_why_text WrongType = codes "WrongType"
field_why_text BadWord = codes "BadWord"
field_why_text Unknown = codes "Unknown"
field_why_text Both = codes "Both"

abbrev pub tap_why_text : TapWhy → List ℕ
tap_why_text NotNumber = codes "NotNumber"
tap_why_text TooLarge = codes "TooLarge"

abbrev pub plan_read_fault_text : PlanReadFault → List ℕ
plan_read_fault_text NotToml = codes "NotToml"
plan_read_fault_text (Field element field why) = codes "Field element=" ++ decimal element ++ codes " field=" ++ field ++ codes " why=" ++ field_why_text why
plan_read_fault_text (Version found) = codes "Version found=" ++ signed_decimal found
plan_read_fault_text Memory = codes "Memory"
