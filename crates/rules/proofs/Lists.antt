-- What stands in a list, and lists in order.
use Rattle.std.proofs.Common.{◌≡◌, suc, Bool, true, ◌⊎◌, List, [], ◌∷◌, get_or, Some, filter, find, sym, refl, ap, ◌∙◌, subst, inl, inr, arith}
use Rattle.std.specs.Prelude.{Contains, AllPairs}
use Rattle.std.proofs.lemmas.Bool.{cases_Bool, both_ways}
use Rattle.std.proofs.lemmas.Option.{slice_get_within, get_or_from_slice_get}
use Rattle.std.proofs.lemmas.List.Folds.{find_at}
use Rattle.std.specs.List.{position_or_len, slice_get}
use Rattle.std.proofs.lemmas.List.Elements.{All-contains, All-filter, All-contains_itself, filter_passes, Contains-append_cases, Contains-push_cases, Contains-get_or, Contains-append_right}
use Rattle.std.proofs.lemmas.List.Kept.{AllPairs-cons}

module _ {X : Type 0} where
  pub first_or_later : (y : X) (ys : List X) (x : X) → Contains (y ∷ ys) x → (x ≡ y) ⊎ Contains ys x
  first_or_later y ys x c = elim (Contains-append_cases (y ∷ []) ys x c) [
    | inl i ↦ elim (Contains-push_cases [] y x i) [ inl n ↦ absurd (omega (arith, n.1)) | inr e ↦ inl (sym e) ]
    | inr i ↦ inr i
  ]

  pub here : (x : X) (xs : List X) → Contains (x ∷ xs) x
  here x xs = Contains-get_or (x ∷ xs) 0 x (omega arith)

  pub later : (y : X) (ys : List X) (x : X) → Contains ys x → Contains (y ∷ ys) x
  later y ys x c = Contains-append_right (y ∷ []) ys x c

  pub none_in : (x : X) → Contains [] x → ⊥
  none_in x c = omega (arith, c.1)

  pub in_kept : (f : X → Bool) (xs : List X) (x : X) → Contains (filter f xs) x → Contains xs x × (f x ≡ true)
  in_kept f xs x c = (
    All-contains (Contains xs) (filter f xs) x (All-filter f (Contains xs) xs (All-contains_itself xs)) c,
    All-contains (λ y. f y ≡ true) (filter f xs) x (filter_passes f xs) c,
  )

  pub kept_in : (f : X → Bool) (xs : List X) (x : X) → Contains xs x → f x ≡ true → Contains (filter f xs) x
  kept_in f [] x c e = absurd (none_in x c)
  kept_in f (y ∷ ys) x c e = elim (cases_Bool (f y)) [
    | inl t ↦ rw t (elim (first_or_later y ys x c) [ inl is ↦ rw is (here y (filter f ys)) | inr i ↦ later y (filter f ys) x (kept_in f ys x i e) ])
    | inr u ↦ rw u (elim (first_or_later y ys x c) [ inl is ↦ absurd (both_ways (f y) u (ap f (sym is) ∙ e)) | inr i ↦ kept_in f ys x i e ])
  ]

  pub find_in : (f : X → Bool) (xs : List X) (x : X) → find f xs ≡ Some x → Contains xs x
  find_in f xs x e =
      let at : slice_get xs (position_or_len f xs) ≡ Some x = sym (find_at f xs) ∙ e in
      (position_or_len f xs, slice_get_within xs (position_or_len f xs) x at, get_or_from_slice_get xs (position_or_len f xs) x x at)

  module _ (R : X → X → Type 0) where
    -- the first element to the later ones, and these among themselves
    pub pairs_from : (x : X) (xs : List X) → AllPairs R (x ∷ xs) → (y : X) → Contains xs y → R x y
    pairs_from x xs p y c = subst (R x) c.2 (p 0 (suc c.0) y (omega arith) (omega (arith, c.1)))

    pub pairs_rest : (x : X) (xs : List X) → AllPairs R (x ∷ xs) → AllPairs R xs
    pairs_rest x xs p i j d h k = p (suc i) (suc j) d (omega arith) (omega arith)

    pub pairs_more : (x : X) (xs : List X) → ((y : X) → Contains xs y → R x y) → AllPairs R xs → AllPairs R (x ∷ xs)
    pairs_more x xs f p = AllPairs-cons R x xs (λ k d h. f (get_or xs k d) (Contains-get_or xs k d h)) p

    pub pairs_by : (S : X → X → Type 0) (xs : List X) → ((x y : X) → Contains xs x → Contains xs y → R x y → S x y) → AllPairs R xs → AllPairs S xs
    pairs_by S xs f p i j d h k = f (get_or xs i d) (get_or xs j d) (Contains-get_or xs i d (omega arith)) (Contains-get_or xs j d k) (p i j d h k)

  -- two lists in a strict order that hold the same are one
  pub same_ordered : (R : X → X → Type 0) → ((x y : X) → R x y → R y x → ⊥) → (xs ys : List X) → AllPairs R xs → AllPairs R ys
      → ((z : X) → Contains xs z → Contains ys z) → ((z : X) → Contains ys z → Contains xs z) → xs ≡ ys
  same_ordered R never [] [] o p to from = refl
  same_ordered R never [] (y ∷ ys) o p to from = absurd (none_in y (from y (here y ys)))
  same_ordered R never (x ∷ xs) [] o p to from = absurd (none_in x (to x (here x xs)))
  same_ordered R never (x ∷ xs) (y ∷ ys) o p to from =
      let heads : x ≡ y = elim (first_or_later y ys x (to x (here x xs))) [
        | inl e ↦ e
        | inr i ↦ elim (first_or_later x xs y (from y (here y ys))) [
          | inl e ↦ sym e
          | inr j ↦ absurd (never x y (pairs_from R x xs o y j) (pairs_from R y ys p x i))
        ]
      ] in
      let once : (z : X) (zs : List X) → AllPairs R (z ∷ zs) → Contains zs z → ⊥ = λ z zs q i. let r = pairs_from R z zs q z i in never z z r r in
      let tails : xs ≡ ys = same_ordered R never xs ys (pairs_rest R x xs o) (pairs_rest R y ys p)
      (λ z i. elim (first_or_later y ys z (to z (later x xs z i))) [ inl e ↦ absurd (once x xs o (subst (Contains xs) (e ∙ sym heads) i)) | inr j ↦ j ])
      (λ z i. elim (first_or_later x xs z (from z (later y ys z i))) [ inl e ↦ absurd (once y ys p (subst (Contains ys) (e ∙ heads) i)) | inr j ↦ j ]) in
      cc
