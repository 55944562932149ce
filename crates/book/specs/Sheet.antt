-- What a book means, and what a posting does to it.
use Rattle.std.specs.Prelude.{◌≡◌, ℕ, ◌+◌, ◌≤◌, Bool, cond, not, ◌&&◌, ◌⊎◌, List, ℤ, pos, ◌+ℤ◌, ◌-ℤ◌, codes, Some, None, Ok, Err, Option, Result, ◌==◌, nat_le, nat_lt}
use Rattle.book.specs.declared.posting.Posting.{Posting}
use Rattle.book.specs.declared.posting.Refusal.{Refusal}
use Rattle.book.specs.declared.posting.Refusal.TheVariants.{BadPosting, NoPlace}

-- the lots of each paper and the cash that each house has, and how many postings are still taken
pub record Sheet : Type 0 where
  pub lots : (house paper : ℕ) → ℤ
  pub cash : (house : ℕ) → ℤ
  pub places : ℕ

-- every balance is zero
pub record Clear (s : Sheet) : Type 0 where
  pub lots : (house paper : ℕ) → s.lots house paper ≡ pos 0
  pub cash : (house : ℕ) → s.cash house ≡ pos 0

-- the balances of what is no house (above 15) and no paper (above 7) are zero
pub record ZeroOutside (s : Sheet) : Type 0 where
  pub lots : (house paper : ℕ) → (16 ≤ house) ⊎ (8 ≤ paper) → s.lots house paper ≡ pos 0
  pub cash : (house : ℕ) → 16 ≤ house → s.cash house ≡ pos 0

-- every balance of the one is that of the other
pub record SameBalances (s t : Sheet) : Type 0 where
  pub lots : (house paper : ℕ) → t.lots house paper ≡ s.lots house paper
  pub cash : (house : ℕ) → t.cash house ≡ s.cash house

-- z where the test holds, else nothing
abbrev pub when : Bool → ℤ → ℤ
when b z = cond b z (pos 0)

-- what an amount that goes from one house to another adds to the balance of a house
abbrev pub moved : (to from amount house : ℕ) → ℤ
moved to from amount house = when (house == to) (pos amount) -ℤ when (house == from) (pos amount)

-- what a posting adds to a house's lots of a paper: the lots go from the seller to the buyer
abbrev pub lots_added : Posting → (house paper : ℕ) → ℤ
lots_added x house paper = when (paper == x.paper) (moved x.buyer x.seller x.lots house)

-- what a posting adds to a house's cash: the pesos go from the buyer to the seller
abbrev pub cash_added : Posting → (house : ℕ) → ℤ
cash_added x house = moved x.seller x.buyer x.pesos house

-- the new sheet is the old one with a posting added, and has as many places or one fewer
pub record Posted (old : Sheet) (x : Posting) (new : Sheet) : Type 0 where
  pub lots : (house paper : ℕ) → new.lots house paper ≡ old.lots house paper +ℤ lots_added x house paper
  pub cash : (house : ℕ) → new.cash house ≡ old.cash house +ℤ cash_added x house
  pub places : (new.places ≡ old.places) ⊎ (new.places + 1 ≡ old.places)

-- the posting with buyer and seller exchanged
abbrev pub exchanged : Posting → Posting
exchanged x = record { buyer = x.seller; seller = x.buyer; paper = x.paper; lots = x.lots; pesos = x.pesos }

-- two houses of 0 to 15 that differ
abbrev pub parties_fit : Posting → Bool
parties_fit x = nat_lt x.buyer 16 && (nat_lt x.seller 16 && not (x.buyer == x.seller))

-- a paper of 0 to 7, 1 to 1,000,000 lots, 1 to 200,000,000,000 pesos
abbrev pub terms_fit : Posting → Bool
terms_fit x = nat_lt x.paper 8 && (nat_lt 0 x.lots && (nat_le x.lots 1_000_000 && (nat_lt 0 x.pesos && nat_le x.pesos 200_000_000_000)))

-- a posting that a book with a place takes
unfoldable pub acceptable : Posting → Bool
acceptable x = parties_fit x && terms_fit x

-- why a posting is refused when there are so many places: the first refusal that applies, if any
abbrev pub first_refusal : (places : ℕ) → Posting → Option Refusal
first_refusal places x = cond (not (acceptable x)) (Some BadPosting) (cond (places == 0) (Some NoPlace) None)

-- the number that a refusal is known by
abbrev pub refusal_number : Refusal → ℕ
refusal_number BadPosting = 27
refusal_number NoPlace = 28

-- what a reader is told of a refusal
abbrev pub refusal_text : Refusal → List ℕ
refusal_text BadPosting = codes "the posting is out of range"
refusal_text NoPlace = codes "the book has no place left"

-- a posting that no rule refuses is added
pub record Accepts (old : Sheet) (x : Posting) (new : Sheet) : Type 0 where
  pub allowed : first_refusal old.places x ≡ None
  pub posted : Posted old x new

-- a refused posting alters nothing, and the refusal is the first that applies
pub record Refuses (old : Sheet) (x : Posting) (why : Refusal) (new : Sheet) : Type 0 where
  pub first : first_refusal old.places x ≡ Some why
  pub same : new ≡ old

-- the answer to a posting, and what it makes of the sheet
abbrev pub Posts : (old : Sheet) → Posting → (answer : Result (Unit {0}) Refusal) → (new : Sheet) → Type 0
Posts old x (Ok done) new = Accepts old x new
Posts old x (Err why) new = Refuses old x why new

-- for a book of which an accepted posting takes one place, and a refused one none
abbrev pub TakesPlace : (old : ℕ) → (answer : Result (Unit {0}) Refusal) → (new : ℕ) → Type 0
TakesPlace old (Ok done) new = new + 1 ≡ old
TakesPlace old (Err why) new = new ≡ old
