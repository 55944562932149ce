-- The two laws of every book.
use Rattle.std.proofs.Common.{◌≡◌, ℕ, zero, suc, ◌+◌, ◌<◌, Bool, true, false, cond, eqb, ltb, List, [], ◌∷◌, ◌++◌, length, get_or, take, ℤ, pos, ◌+ℤ◌, is_ok, Ok, Err, Result, sym, refl, ◌∙◌, subst, arith}
use Rattle.std.proofs.lemmas.List.{take_more}
use Rattle.std.proofs.lemmas.Int.{ints}
use Rattle.std.proofs.lemmas.Bool.{cond-true, lt-ltb}
use Rattle.std.proofs.lemmas.Bool.Decides.{nat_tests}
use Rattle.book.specs.Sheet.{Sheet, Posted, Posts, when, moved, lots_added, cash_added}
use Rattle.book.specs.Laws.{Run, run_none, run_accepted, run_refused, over_houses, Balanced, AlwaysBalanced, TakenBack}
use Rattle.book.specs.declared.posting.Posting.{Posting}
use Rattle.book.specs.declared.posting.Refusal.{Refusal}
use Rattle.book.proofs.Bounds.{Bounds, bounds, allowed}

over_none : (n : ℕ) (f : ℕ → ℤ) → ((h : ℕ) → f h ≡ pos 0) → over_houses n f ≡ pos 0
over_none zero f e = refl
over_none (suc n) f e = omega (arith, ints, over_none n f e, e n)

over_add : (n : ℕ) (f g d : ℕ → ℤ) → ((h : ℕ) → g h ≡ f h +ℤ d h) → over_houses n g ≡ over_houses n f +ℤ over_houses n d
over_add zero f g d e = refl
over_add (suc n) f g d e = let ih = over_add n f g d e in omega (arith, ints, ih, e n)

over_at : (n a : ℕ) (z : ℤ) → over_houses n (λ h. when (eqb h a) z) ≡ when (ltb a n) z
over_at zero a z = grind (arith, nat_tests)
over_at (suc n) a z = let ih = over_at n a z in grind (arith, ints, nat_tests)

-- what goes from one house to another adds nothing to the total
over_moved : (to from n : ℕ) → to < 16 → from < 16 → over_houses 16 (moved to from n) ≡ pos 0
over_moved to from n ht hf =
    let parts = over_add 16 (moved to from n) (λ h. when (eqb h to) (pos n)) (λ h. when (eqb h from) (pos n)) (λ h. omega (arith, ints)) in
    let a : over_houses 16 (λ h. when (eqb h to) (pos n)) ≡ pos n = over_at 16 to (pos n) ∙ cond-true _ _ _ (lt-ltb to 16 ht) in
    let b : over_houses 16 (λ h. when (eqb h from) (pos n)) ≡ pos n = over_at 16 from (pos n) ∙ cond-true _ _ _ (lt-ltb from 16 hf) in
    omega (arith, ints, parts, a, b)

over_when : (b : Bool) (f : ℕ → ℤ) → over_houses 16 f ≡ pos 0 → over_houses 16 (λ h. when b (f h)) ≡ pos 0
over_when true f e = e
over_when false f e = over_none 16 (λ h. pos 0) (λ h. refl)

balanced_posted : {old new : Sheet} {x : Posting} → Bounds x → Posted old x new → Balanced old → Balanced new
balanced_posted {old} {new} {x} ok p b = record {
  lots = λ q. omega (
    arith,
    ints,
    over_add 16 (λ h. old.lots h q) (λ h. new.lots h q) (λ h. lots_added x h q) (λ h. p.lots h q),
    over_when (eqb q x.paper) (moved x.buyer x.seller x.lots) (over_moved x.buyer x.seller x.lots ok.buyer ok.seller),
    b.lots q,
  );
  cash = omega (
    arith,
    ints,
    over_add 16 old.cash new.cash (cash_added x) p.cash,
    over_moved x.seller x.buyer x.pesos ok.seller ok.buyer,
    b.cash,
  );
}

balanced_run : {old new : Sheet} {xs : List Posting} {n : ℕ} → Run old xs n new → Balanced old → Balanced new
balanced_run run_none b = b
balanced_run {old} (run_accepted {x = x} a rest) b = balanced_run rest (balanced_posted (bounds x (allowed old.places x a.allowed)) a.posted b)
balanced_run (run_refused r rest) b = balanced_run rest (subst Balanced (sym r.same) b)

pub always_balanced : AlwaysBalanced
always_balanced old new xs n clear run =
    balanced_run run (record { lots = λ q. over_none 16 (λ h. old.lots h q) (λ h. clear.lots h q); cash = over_none 16 old.cash clear.cash })

-- one posting more
run_push : {s s' s'' : Sheet} {xs : List Posting} {n : ℕ} (x : Posting) (answer : Result (Unit {0}) Refusal)
    → Run s xs n s' → Posts s' x answer s'' → Run s (xs ++ (x ∷ [])) (cond (is_ok answer) (suc n) n) s''
run_push x (Ok done) run_none p = run_accepted p run_none
run_push x (Ok done) (run_accepted a rest) p = run_accepted a (run_push x (Ok done) rest p)
run_push x (Ok done) (run_refused r rest) p = run_refused r (run_push x (Ok done) rest p)
run_push x (Err why) run_none p = run_refused p run_none
run_push x (Err why) (run_accepted a rest) p = run_accepted a (run_push x (Err why) rest p)
run_push x (Err why) (run_refused r rest) p = run_refused r (run_push x (Err why) rest p)

pub run_take : {s s' s'' : Sheet} {n : ℕ} (xs : List Posting) (i : ℕ) (d : Posting) (answer : Result (Unit {0}) Refusal)
    → i < length xs → Run s (take i xs) n s' → Posts s' (get_or xs i d) answer s'' → Run s (take (i + 1) xs) (cond (is_ok answer) (suc n) n) s''
run_take {s} {s'' = s''} {n} xs i d answer h run p =
    subst (λ (l : List Posting). Run s l (cond (is_ok answer) (suc n) n) s'') (sym (take_more xs i d h)) (run_push (get_or xs i d) answer run p)

when_back : (b : Bool) (x y : ℤ) → x +ℤ y ≡ pos 0 → when b x +ℤ when b y ≡ pos 0
when_back true x y e = e
when_back false x y e = refl

pub taken_back : TakenBack
taken_back before between after x p q = record {
  lots = λ h c. omega (
    arith,
    ints,
    p.lots h c,
    q.lots h c,
    when_back (eqb c x.paper) (moved x.seller x.buyer x.lots h) (moved x.buyer x.seller x.lots h) (omega (arith, ints)),
  );
  cash = λ h. omega (arith, ints, p.cash h, q.cash h);
}
