-- The laws of a book, at a journal. All of it is proved here, and nothing is to be believed: it stands in specs/ since the laws of an impl can cite no other place.
use Rattle.std.specs.Prelude.{◌≡◌, ℕ, suc, ◌^◌, ◌<◌, ◌≤◌, true, ◌⊎◌, List, [], ◌∷◌, pos, ℤ, refl}
use Rattle.std.specs.List.{All}
use Rattle.std.proofs.Common.{arith}
use Rattle.std.proofs.lemmas.Int.{ints}
use Rattle.std.proofs.lemmas.Bool.Decides.{nat_tests}
use Rattle.book.specs.Sheet.{ZeroOutside, acceptable, lots_added, cash_added}
use Rattle.book.specs.declared.posting.Posting.{Posting}
use Rattle.book.proofs.Bounds.{bounds}
use Rattle.journal.specs.Meaning.{added_up, journal_sheet}
use Rattle.journal.specs.declared.Journal.{Journal}

-- where no posting adds anything, neither do all of them
pub added_up_none : (f : Posting → ℤ) (xs : List Posting) → All (λ x. f x ≡ pos 0) xs → added_up f xs ≡ pos 0
added_up_none f [] none = refl
added_up_none f (x ∷ xs) none = rw (none 0 x (omega arith)) (added_up_none f xs (λ k d lt. none (suc k) d (omega arith)))

pub lots_beyond : (h p : ℕ) → (16 ≤ h) ⊎ (8 ≤ p) → (x : Posting) → acceptable x ≡ true → lots_added x h p ≡ pos 0
lots_beyond h p far x e = let ok = bounds x e in grind (arith, ints, nat_tests)

pub cash_beyond : (h : ℕ) → 16 ≤ h → (x : Posting) → acceptable x ≡ true → cash_added x h ≡ pos 0
cash_beyond h far x e = let ok = bounds x e in grind (arith, ints, nat_tests)

pub zero_outside : (j : Journal) → ZeroOutside (journal_sheet j)
zero_outside j = record {
  lots = λ h p far. added_up_none (λ x. lots_added x h p) j.postings.items (λ k d lt. lots_beyond h p far _ (j.sound k d lt));
  cash = λ h far. added_up_none (λ x. cash_added x h) j.postings.items (λ k d lt. cash_beyond h far _ (j.sound k d lt));
}

pub places_fit : (j : Journal) → (journal_sheet j).places < 2 ^ 32
places_fit j = omega arith
