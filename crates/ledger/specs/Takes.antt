-- What becomes of a trade.
use Rattle.std.specs.Prelude.{◌≡◌, ℕ, Some, None, Ok, Err, Option, Result}
use Rattle.book.specs.Sheet.{Sheet, Accepts, Refuses}
use Rattle.book.specs.declared.posting.Posting.{Posting}
use Rattle.lines.specs.Credit.{Credit, Clear, Grown}
use Rattle.lines.specs.Rules.{fault, falls_on}
use Rattle.lines.specs.Of.{credit}
use Rattle.lines.specs.declared.table.Deal.{Deal}
use Rattle.lines.specs.declared.table.Fault.{Fault}
use Rattle.lines.specs.declared.table.Lines.{Lines}
use Rattle.trades.specs.Trades.{market, value}
use Rattle.trades.specs.declared.trade.Trade.{Trade}
use Rattle.ledger.specs.declared.not_posted.NotPosted.{NotPosted}
use Rattle.ledger.specs.declared.not_posted.NotPosted.TheVariants.{PassedOver, Refused}

abbrev pub posting : Trade → Posting
posting t = record { buyer = t.buyer; seller = t.seller; paper = t.paper; lots = t.lots; pesos = value t }

abbrev pub deal : Trade → Deal
deal t = record { pledges = (market t.kind).pledges; buyer = t.buyer; seller = t.seller; value = value t }

-- the credit that a limit or a block is set in: where it is the first, none is granted and no house blocked
abbrev pub Begun : Option Lines → Credit → Type 0
Begun None c = Clear c
Begun (Some lines) c = c ≡ credit lines

-- lines rule now, and the change led to what they are from what they were
abbrev pub NowRule : ((old new : Credit) → Type 0) → (old new : Option Lines) → Type 0
NowRule change old None = ⊥
NowRule change old (Some new) = (begun : Credit) × Begun old begun × change begun (credit new)

-- why the lines do not allow the trade, if they rule
abbrev pub barred : Option Lines → Trade → Option Fault
barred None t = None
barred (Some lines) t = fault (credit lines) (deal t)

-- the trade's lines are used, if lines rule
abbrev pub LinesUsed : (old : Option Lines) → Trade → (new : Option Lines) → Type 0
LinesUsed None t new = new ≡ None
LinesUsed (Some old) t None = ⊥
LinesUsed (Some old) t (Some new) = Grown (credit old) (falls_on (deal t).pledges t.buyer t.seller) (value t) (credit new)

-- the answer to a trade, and what it makes of lines and book
abbrev pub Takes : (old : Option Lines) (sheet : Sheet) → Trade → Result ℕ NotPosted → (new : Option Lines) (after : Sheet) → Type 0
-- posted for its value, with its lines used where they rule
Takes old sheet t (Ok pesos) new after = (barred old t ≡ None) × (pesos ≡ value t) × LinesUsed old t new × Accepts sheet (posting t) after
-- passed over, where the lines do not allow it: nothing changes
Takes old sheet t (Err (PassedOver why)) new after = (barred old t ≡ Some why) × (new ≡ old) × (after ≡ sheet)
-- refused by the book: nothing changes
Takes old sheet t (Err (Refused why)) new after = (barred old t ≡ None) × (new ≡ old) × Refuses sheet (posting t) why after
