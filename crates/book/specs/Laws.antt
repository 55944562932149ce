-- What holds of every book, whatever is posted.
use Rattle.std.specs.Prelude.{◌≡◌, ℕ, zero, suc, List, [], ◌∷◌, ℤ, pos, ◌+ℤ◌}
use Rattle.book.specs.Sheet.{Sheet, Clear, SameBalances, Posted, Accepts, Refuses, exchanged}
use Rattle.book.specs.declared.posting.Posting.{Posting}
use Rattle.book.specs.declared.posting.Refusal.{Refusal}

-- the postings, posted in turn, lead from the old sheet to the new one, and so many of them are accepted
pub data Run : (old : Sheet) → List Posting → (accepted : ℕ) → (new : Sheet) → Type 0 where
  run_none : {s : Sheet} → Run s [] 0 s
  run_accepted : {s s' s'' : Sheet} {x : Posting} {xs : List Posting} {n : ℕ} → Accepts s x s' → Run s' xs n s'' → Run s (x ∷ xs) (suc n) s''
  run_refused : {s s' s'' : Sheet} {x : Posting} {xs : List Posting} {n : ℕ} {why : Refusal} → Refuses s x why s' → Run s' xs n s'' → Run s (x ∷ xs) n s''

-- the sum of f over the houses below n
abbrev pub over_houses : ℕ → (ℕ → ℤ) → ℤ
over_houses zero f = pos 0
over_houses (suc n) f = over_houses n f +ℤ f n

-- over all sixteen houses each paper totals zero, and so does the cash
pub record Balanced (s : Sheet) : Type 0 where
  pub lots : (paper : ℕ) → over_houses 16 (λ house. s.lots house paper) ≡ pos 0
  pub cash : over_houses 16 s.cash ≡ pos 0

-- FIRST LAW: whatever is posted to a book that begins with every balance zero, refused postings among it, the totals are zero
abbrev pub AlwaysBalanced : Type 0
AlwaysBalanced = (old new : Sheet) (postings : List Posting) (accepted : ℕ) → Clear old → Run old postings accepted new → Balanced new

-- SECOND LAW: a posting, and then the same with buyer and seller exchanged, leaves every balance as it was
abbrev pub TakenBack : Type 0
TakenBack = (before between after : Sheet) (x : Posting) → Posted before x between → Posted between (exchanged x) after → SameBalances before after
