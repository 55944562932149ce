-- The offers that an entry goes through.
use Rattle.std.proofs.Common.{◌≡◌, ℕ, Bool, true, false, ◌&&◌, ◌||◌, ◌⊎◌, eqb, ltb, List, [], ◌∷◌, filter, sym, refl, ◌∙◌, subst, inl, inr, arith}
use Rattle.std.proofs.lemmas.Bool.{cases_Bool}
use Rattle.std.proofs.lemmas.Bool.Decides.{nat_tests}
use Rattle.std.proofs.lemmas.List.Kept.{AllPairs-filter}
use Rattle.std.proofs.lemmas.List.Sorted.{IsPermutation-refl, IsPermutation-sym, IsPermutation-cons, IsPermutation-middle, IsPermutation-trans, Contains-permutation}
use Rattle.std.specs.Prelude.{Contains, AllPairs, IsPermutation}
use Rattle.market.specs.Meaning.{Meaning}
use Rattle.rules.specs.declared.offers.Offer.{Offer}
use Rattle.rules.specs.declared.offers.Side.{Side}
use Rattle.rules.specs.declared.offers.Side.TheVariants.{Buy, Sell}
use Rattle.rules.specs.Board.{better, ahead, placed, best_first, meets, met}
use Rattle.rules.specs.Laws.{NumbersDiffer, Crosses, MetBefore, Meets, WhoIsMet, MemoryDoesNotMatter}
use Rattle.rules.proofs.Lists.{first_or_later, here, later, none_in, in_kept, kept_in, pairs_from, pairs_rest, pairs_more, pairs_by, same_ordered}

-- offers of two numbers
abbrev pub Differ : Offer → Offer → Type 0
Differ o p = o.number ≡ p.number → ⊥

abbrev Ahead : Meaning → Offer → Offer → Type 0
Ahead m o p = ahead m o p ≡ true

-- `ahead` for offers of one side, by their ranks and numbers
abbrev before : Side → (rank number other_rank other_number : ℕ) → Bool
before side r k s l = better side r s || (eqb r s && ltb k l)

before_chain : (side : Side) (a i b j c k : ℕ) → before side a i b j ≡ true → before side b j c k ≡ true → before side a i c k ≡ true
before_chain Buy a i b j c k x y = grind (arith, nat_tests)
before_chain Sell a i b j c k x y = grind (arith, nat_tests)

before_other : (side : Side) (a i b j : ℕ) → (i ≡ j → ⊥) → before side a i b j ≡ false → before side b j a i ≡ true
before_other Buy a i b j d x = grind (arith, nat_tests)
before_other Sell a i b j d x = grind (arith, nat_tests)

module _ (m : Meaning) where
  abbrev rank : Offer → ℕ
  rank o = m.rank o.quote

  ahead_chain : (o p q : Offer) → o.side ≡ p.side → Ahead m o p → Ahead m p q → Ahead m o q
  ahead_chain o p q e x y =
      before_chain o.side (rank o) o.number (rank p) p.number (rank q) q.number x
      (subst (λ (d : Side). before d (rank p) p.number (rank q) q.number ≡ true) (sym e) y)

  ahead_other : (o p : Offer) → o.side ≡ p.side → Differ o p → ahead m o p ≡ false → Ahead m p o
  ahead_other o p e d x =
      subst (λ (s : Side). before s (rank p) p.number (rank o) o.number ≡ true) e
      (before_other o.side (rank o) o.number (rank p) p.number d x)

  -- the order moves offers, and keeps each
  placed_moves : (o : Offer) (ps : List Offer) → IsPermutation (o ∷ ps) (placed m o ps)
  placed_moves o [] = IsPermutation-refl (o ∷ [])
  placed_moves o (p ∷ ps) = elim (cases_Bool (ahead m o p)) [
    | inl t ↦ rw t (IsPermutation-refl (o ∷ p ∷ ps))
    | inr u ↦ rw u (IsPermutation-trans (o ∷ p ∷ ps) (p ∷ o ∷ ps) (p ∷ placed m o ps) (IsPermutation-middle (o ∷ []) p ps)
        (IsPermutation-cons p (o ∷ ps) (placed m o ps) (placed_moves o ps)))
  ]

  best_moves : (os : List Offer) → IsPermutation os (best_first m os)
  best_moves [] = IsPermutation-refl []
  best_moves (o ∷ os) =
      IsPermutation-trans (o ∷ os) (o ∷ best_first m os) (placed m o (best_first m os)) (IsPermutation-cons o os (best_first m os) (best_moves os))
      (placed_moves o (best_first m os))

  in_best : (os : List Offer) (q : Offer) → Contains (best_first m os) q → Contains os q
  in_best os q c = Contains-permutation (best_first m os) os q (IsPermutation-sym os (best_first m os) (best_moves os)) c

  -- S holds of any two offers of a list, the earlier first; and so R of any two in their order
  module _ (S R : Offer → Offer → Type 0) (front : (o p q : Offer) → S o p → S o q → ahead m o p ≡ true → (q ≡ p) ⊎ R p q → R o q) (back : (o p : Offer) → S o p → ahead m o p ≡ false → R p o) where
    placed_ordered : (o : Offer) (ps : List Offer) → ((p : Offer) → Contains ps p → S o p) → AllPairs R ps → AllPairs R (placed m o ps)
    placed_ordered o [] s h = pairs_more R o [] (λ q i. absurd (none_in q i)) h
    placed_ordered o (p ∷ ps) s h = elim (cases_Bool (ahead m o p)) [
      | inl t ↦ rw t (pairs_more R o (p ∷ ps)
          (λ q i. front o p q (s p (here p ps)) (s q i) t (elim (first_or_later p ps q i) [ inl e ↦ inl e | inr j ↦ inr (pairs_from R p ps h q j) ])) h)
      | inr u ↦ rw u (pairs_more R p (placed m o ps)
          (λ q i. elim (first_or_later o ps q (Contains-permutation (placed m o ps) (o ∷ ps) q (IsPermutation-sym (o ∷ ps) (placed m o ps) (placed_moves o ps)) i)) [
            | inl e ↦ subst (R p) (sym e) (back o p (s p (here p ps)) u)
            | inr j ↦ pairs_from R p ps h q j
          ])
          (placed_ordered o ps (λ q i. s q (later p ps q i)) (pairs_rest R p ps h)))
    ]

    best_ordered : (os : List Offer) → AllPairs S os → AllPairs R (best_first m os)
    best_ordered [] s = λ i j d h k. absurd (omega (arith, k))
    best_ordered (o ∷ os) s = placed_ordered o (best_first m os) (λ p i. pairs_from S o os s p (in_best os p i)) (best_ordered os (pairs_rest S o os s))

  -- what the test on two offers tells, and what it takes
  meets_tells : (side other : Side) (e o : Offer) → e.side ≡ side → o.side ≡ other → meets m e o ≡ true → Crosses m side e o
  meets_tells Buy Buy e o p q h = let t = rw (p, q) at h in absurd (grind (arith, nat_tests))
  meets_tells Buy Sell e o p q h = let t = rw (p, q) at h in (grind (arith, nat_tests), q, grind (arith, nat_tests))
  meets_tells Sell Buy e o p q h = let t = rw (p, q) at h in (grind (arith, nat_tests), q, grind (arith, nat_tests))
  meets_tells Sell Sell e o p q h = let t = rw (p, q) at h in absurd (grind (arith, nat_tests))

  meets_from : (side : Side) (e o : Offer) → e.side ≡ side → Crosses m side e o → meets m e o ≡ true
  meets_from Buy e o p c = rw (p, c.1) (grind (arith, nat_tests, c.0, c.2))
  meets_from Sell e o p c = rw (p, c.1) (grind (arith, nat_tests, c.0, c.2))

  pub met_crosses : (e : Offer) (os : List Offer) (o : Offer) → Contains (met m e os) o → Contains os o × Crosses m e.side e o
  met_crosses e os o i =
      let there = in_kept (meets m e) os o (in_best (filter (meets m e) os) o i) in
      (there.0, meets_tells e.side o.side e o refl refl there.1)

  -- an entering offer meets offers of the other side
  other_side : (side : Side) (e o p : Offer) → Crosses m side e o → Crosses m side e p → o.side ≡ p.side
  other_side Buy e o p c d = c.1 ∙ sym d.1
  other_side Sell e o p c d = c.1 ∙ sym d.1

  ahead_tells : (side : Side) (e o p : Offer) → Crosses m side e o → Ahead m o p → MetBefore m side o p
  ahead_tells Buy e o p c a = let t : before Sell (rank o) o.number (rank p) p.number ≡ true = rw c.1 at a in grind (arith, nat_tests)
  ahead_tells Sell e o p c a = let t : before Buy (rank o) o.number (rank p) p.number ≡ true = rw c.1 at a in grind (arith, nat_tests)

  never_both : (side : Side) (o p : Offer) → MetBefore m side o p → MetBefore m side p o → ⊥
  never_both Buy o p (inl x) (inl y) = omega arith
  never_both Buy o p (inl x) (inr y) = omega (arith, y.0)
  never_both Buy o p (inr x) (inl y) = omega (arith, x.0)
  never_both Buy o p (inr x) (inr y) = omega (arith, x.1, y.1)
  never_both Sell o p (inl x) (inl y) = omega arith
  never_both Sell o p (inl x) (inr y) = omega (arith, y.0)
  never_both Sell o p (inr x) (inl y) = omega (arith, x.0)
  never_both Sell o p (inr x) (inr y) = omega (arith, x.1, y.1)

module _ (m : Meaning) (e : Offer) (os : List Offer) (d : NumbersDiffer os) where
  pub met_meets : Meets m e os (met m e os)
  met_meets =
      let kept = filter (meets m e) os in
      let Apart = λ (o p : Offer). (o.side ≡ p.side) × Differ o p in
      let differ = AllPairs-filter Differ (meets m e) os d in
      let crossing : (o : Offer) → Contains kept o → Crosses m e.side e o = λ o i. meets_tells m e.side o.side e o refl refl (in_kept (meets m e) os o i).1 in
      let apart = pairs_by Differ Apart kept (λ o p i j h. (other_side m e.side e o p (crossing o i) (crossing p j), h)) differ in
      record {
        crossing = met_crosses m e os;
        all = λ o i c. Contains-permutation kept (best_first m kept) o (best_moves m kept) (kept_in (meets m e) os o i (meets_from m e.side e o refl c));
        once = best_ordered m Differ Differ (λ o p q a b t e. b) (λ o p a u same. a (sym same)) kept differ;
        in_order =
            pairs_by (Ahead m) (MetBefore m e.side) (best_first m kept) (λ o p i j a. ahead_tells m e.side e o p (crossing o (in_best m kept o i)) a)
            (best_ordered m Apart (Ahead m)
            (λ o p q a b t next. elim next [ inl e ↦ subst (Ahead m o) (sym e) t | inr then ↦ ahead_chain m o p q a.0 t then ])
            (λ o p a u. ahead_other m o p a.0 a.1 u) kept apart);
      }

-- two lists of which each holds exactly the offers that cross, in order, are one
meets_same : (m : Meaning) (e : Offer) (os ps xs ys : List Offer) → ((o : Offer) → Contains os o → Contains ps o) → ((o : Offer) → Contains ps o → Contains os o) → Meets m e os xs → Meets m e ps ys → xs ≡ ys
meets_same m e os ps xs ys to from a b =
    same_ordered (MetBefore m e.side) (never_both m e.side) xs ys a.in_order b.in_order
    (λ o i. b.all o (to o (a.crossing o i).0) (a.crossing o i).1)
    (λ o i. a.all o (from o (b.crossing o i).0) (b.crossing o i).1)

pub who_is_met : WhoIsMet
who_is_met m e os d = (met_meets m e os d, λ xs meets. meets_same m e os os xs (met m e os) (λ o i. i) (λ o i. i) meets (met_meets m e os d))

pub memory_does_not_matter : MemoryDoesNotMatter
memory_does_not_matter m e os ps d f to from = meets_same m e os ps (met m e os) (met m e ps) to from (met_meets m e os d) (met_meets m e ps f)
