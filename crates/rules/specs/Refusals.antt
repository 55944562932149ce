-- Why a call is refused: the number of each refusal, and its particulars.
use Rattle.std.specs.Prelude.{ℕ, Bool, List, [], ◌∷◌, Some, None, Option, option_map}
use Rattle.std.specs.Bool.{then_some}
use Rattle.lines.specs.Rules.{fault_case, fault_figures}
use Rattle.lines.specs.declared.table.Fault.{Fault}
use Rattle.lines.specs.declared.table.Refusal as lines
use Rattle.lines.specs.declared.table.Refusal.TheVariants as line
use Rattle.book.specs.declared.posting.Refusal as book
use Rattle.book.specs.declared.posting.Refusal.TheVariants as posting
use Rattle.rules.specs.declared.refusal.Refusal.{Refusal}
use Rattle.rules.specs.declared.refusal.Refusal.TheVariants.{NoHouse, OneHouse, NoPaper, BadLots, BadQuote, BadLapse, BadClock, OutOfHours, LimitOrDays, TermFixed, NoOffer, NoClose, PaperExposed, NotBetter, MayNotTrade, BoardFull, TapeFull, NoRoom, NoNumber, BadJury, NoParty, WrongStage, NoCase, NoVote, Undecided, PageShort, BadPosting, NoPlace}

-- case by case
abbrev pub told : Refusal → ℕ × List ℕ
told NoHouse = (1, [])
told OneHouse = (2, [])
told NoPaper = (3, [])
told BadLots = (4, [])
told BadQuote = (5, [])
told BadLapse = (6, [])
told BadClock = (7, [])
told OutOfHours = (8, [])
told LimitOrDays = (9, [])
told TermFixed = (10, [])
told NoOffer = (11, [])
told NoClose = (12, [])
told PaperExposed = (13, [])
told NotBetter = (14, [])
-- the line's fault: its case, and who and how much
told (MayNotTrade fault) = (15, fault_case fault ∷ fault_figures fault)
told BoardFull = (16, [])
told TapeFull = (17, [])
told NoRoom = (18, [])
told NoNumber = (19, [])
told BadJury = (20, [])
told NoParty = (21, [])
told WrongStage = (22, [])
told NoCase = (23, [])
told NoVote = (24, [])
told Undecided = (25, [])
told PageShort = (26, [])
told BadPosting = (27, [])
told NoPlace = (28, [])

-- the refusals of the lines and of the book keep their numbers
abbrev pub from_lines : lines.Refusal → Refusal
from_lines line.NoHouse = NoHouse
from_lines line.OneHouse = OneHouse
from_lines line.BadLimit = LimitOrDays

abbrev pub from_book : book.Refusal → Refusal
from_book posting.BadPosting = BadPosting
from_book posting.NoPlace = NoPlace

-- a rule that refuses where its test holds
abbrev pub refuse : Bool → Refusal → Option Refusal
refuse test refusal = then_some test refusal

-- a rule that hands on the line's fault
abbrev pub carried : Option Fault → Option Refusal
carried fault = option_map MayNotTrade fault

-- the first rule of a list that refuses
abbrev pub first : List (Option Refusal) → Option Refusal
first [] = None
first (None ∷ rules) = first rules
first (Some refusal ∷ rules) = Some refusal
