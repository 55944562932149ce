-- What is printed.
use Rattle.std.specs.Prelude.{ℕ, List, ◌++◌, codes, decimal}
use Rattle.lines.specs.declared.table.Refusal.{Refusal}
use Rattle.lines.specs.declared.table.Refusal.TheVariants.{NoHouse, OneHouse, BadLimit}
use Rattle.lines.specs.declared.table.Fault.{Fault}
use Rattle.lines.specs.declared.table.Fault.TheVariants.{OwnHouse, Blocked, Short}

-- what a reader is told of a refusal
abbrev pub refusal_text : Refusal → List ℕ
refusal_text NoHouse = codes "a house is above 15"
refusal_text OneHouse = codes "one house is named as both"
refusal_text BadLimit = codes "the limit is below what is used, or above 10^15"

-- why two houses may not trade
abbrev pub cause : Fault → List ℕ
cause OwnHouse = codes "own house"
cause (Blocked by) = codes "blocked by " ++ decimal by
cause (Short granter counterparty pesos) = codes "short " ++ (decimal granter ++ (codes " " ++ (decimal counterparty ++ (codes " " ++ decimal pesos))))
