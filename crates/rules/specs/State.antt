-- A session's state, and what is defined from its closes.
use Rattle.std.specs.Prelude.{ℕ, ◌-◌, Bool, true, false, cond, not, ◌&&◌, List, [], ◌∷◌, length, ℤ, pos, ◌+ℤ◌, sum_by, count_by, None, Option, ◌==◌, nat_le, slice_index_or, slice_set}
use Rattle.market.specs.Meaning.{Meaning}
use Rattle.book.specs.Sheet.{when, lots_added, cash_added}
use Rattle.book.specs.declared.posting.Posting.{Posting}
use Rattle.lines.specs.Credit.{Credit}
use Rattle.lines.specs.Rules.{falls_on}
use Rattle.rules.specs.declared.calls.ExposureTime.{ExposureTime}
use Rattle.rules.specs.declared.calls.ExposureTime.TheVariants.{Zero, Ten, Twenty}
use Rattle.rules.specs.declared.calls.Settings.{Settings}
use Rattle.rules.specs.declared.closes.Close.{Close}
use Rattle.rules.specs.declared.closes.Stage.{Stage}
use Rattle.rules.specs.declared.closes.Stage.TheVariants.{Live, UnderVote, Annulled, Settled}
use Rattle.rules.specs.declared.offers.Exposure.{Exposure}
use Rattle.rules.specs.declared.offers.Offer.{Offer}

-- what a session was put together from, besides its book
pub record Session : Type 0 where
  pub market : Meaning
  pub settings : Settings

-- for how many seconds a pair is shown
abbrev pub seconds : ExposureTime → ℕ
seconds Zero = 0
seconds Ten = 10
seconds Twenty = 20

pub record State : Type 0 where
  pub clock : ℕ
  pub days : (paper : ℕ) → ℕ
  pub blocked : (house other : ℕ) → Bool
  pub limit : (granter counterparty : ℕ) → ℕ
  -- the standing offers, in the order of their numbers
  pub offers : List Offer
  -- the pair that each paper shows; none: the paper is quiet
  pub papers : (paper : ℕ) → Option Exposure
  -- the recorded closes, in the order of their numbers, from 1
  pub closes : List Close
  -- how many offers were accepted
  pub accepted : ℕ

-- a new session: clock 0, no days, no limits, no blocks, nothing offered and nothing closed
abbrev pub new : State
new = record { clock = 0; days = λ _. 0; blocked = λ _ _. false; limit = λ _ _. 0; offers = []; papers = λ _. None; closes = []; accepted = 0 }

-- f, but x at k
abbrev pub put : {X : Type 0} → (k : ℕ) → X → (ℕ → X) → ℕ → X
put k x f j = cond (j == k) x (f j)

-- the state in which a paper shows a pair, or nothing
abbrev pub showing : (paper : ℕ) → Option Exposure → State → State
showing paper x s = record s { papers = put paper x s.papers }

-- whether the buyer's line, and the seller's, are still held at this stage where they were pledged
abbrev pub held : Stage → Bool × Bool
held (Live heard) = (true, true)
held (UnderVote hearing) = (true, true)
held (Annulled buyer seller) = (not buyer, not seller)
held Settled = (false, false)

-- the close still holds the line of granter on counterparty
abbrev pub holds : (pledges : Bool × Bool) → Close → (granter counterparty : ℕ) → Bool
holds pledges c = falls_on (pledges.0 && (held c.stage).0, pledges.1 && (held c.stage).1) c.buyer c.seller

-- a line's use: the values of the closes that still hold it
abbrev pub used : (pledges : Bool × Bool) → List Close → (granter counterparty : ℕ) → ℕ
used pledges closes granter counterparty = sum_by (λ c. cond (holds pledges c granter counterparty) c.value 0) closes

-- lines and blocks as they stand
abbrev pub credit : Session → State → Credit
credit n s = record { limit = s.limit; used = used n.market.pledges s.closes; blocked = s.blocked }

-- live closes are those live or under vote
abbrev pub live : Stage → Bool
live (Live heard) = true
live (UnderVote hearing) = true
live (Annulled buyer seller) = false
live Settled = false

-- how many there are
abbrev pub live_closes : State → ℕ
live_closes s = count_by (λ c. live c.stage) s.closes

-- the posting of a close
abbrev pub posting : Close → Posting
posting c = record { buyer = c.buyer; seller = c.seller; paper = c.paper; lots = c.lots; pesos = c.value }

-- the sum of f over a list
abbrev pub total : {X : Type 0} → (X → ℤ) → List X → ℤ
total f [] = pos 0
total f (x ∷ xs) = f x +ℤ total f xs

-- a house's live closes add up, in each paper, to lots bought less lots sold and, in cash, to values sold less values bought
abbrev pub balance : State → (house paper : ℕ) → ℤ
balance s house paper = total (λ c. when (live c.stage) (lots_added (posting c) house paper)) s.closes

abbrev pub cash : State → (house : ℕ) → ℤ
cash s house = total (λ c. when (live c.stage) (cash_added (posting c) house)) s.closes

-- the record that stands for a close that is not recorded
abbrev pub no_close : Close
no_close = record { buyer = 0; seller = 0; buy = 0; sell = 0; paper = 0; lots = 0; price = 0; bid = 0; ask = 0; value = 0; stage = Live false }

-- there is a close of that number
abbrev pub recorded : State → (close : ℕ) → Bool
recorded s close = nat_le 1 close && nat_le close (length s.closes)

-- the close of that number
abbrev pub close_of : State → (close : ℕ) → Close
close_of s close = slice_index_or s.closes (close - 1) no_close

-- the close of that number comes to a stage
abbrev pub staged : (close : ℕ) → Stage → State → State
staged close stage s = record s { closes = slice_set s.closes (close - 1) (record (close_of s close) { stage = stage }) }
