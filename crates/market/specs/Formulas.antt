-- A market's range facts and its law, from its two formulas. All of it is proved here, and nothing is to be believed: it stands in specs/ since the laws of an impl can cite no other place.
use Rattle.std.specs.Prelude.{◌≡◌, ℕ, ◌+◌, ◌*◌, ◌/◌, ◌≤◌, true, nat_le}
use Rattle.std.proofs.Common.{inl, inr, arith, mul-le-mul, mul-le-mul_left, mul-le-mul_right, div-mul-le_self}
use Rattle.std.proofs.Math.Nat.{div-le_of_le-mul}
use Rattle.std.proofs.lemmas.Nat.{le-div}
use Rattle.std.proofs.lemmas.Bool.{leb-true, and_parts, cond-false, cases_Bool}
use Rattle.std.proofs.lemmas.Bool.Decides.{nat_tests}
use Rattle.market.specs.Meaning.{Ranged, Dearer, between, tradable}
use Rattle.market.specs.Makes.{Formulas, market, nearest, price, rate, interbank, price_formulas, rate_formulas, interbank_formulas}

pub record Inside (highest lots quote days : ℕ) : Type 0 where
  pub some_lots : 1 ≤ lots
  pub few_lots : lots ≤ 1000000
  pub least : 1 ≤ quote
  pub most : quote ≤ highest
  pub year : days ≤ 365

pub inside : (highest lots quote days : ℕ) → tradable 1 highest lots quote days ≡ true → Inside highest lots quote days
inside highest lots quote days e = record {
  some_lots = grind (arith, nat_tests);
  few_lots = grind (arith, nat_tests);
  least = grind (arith, nat_tests);
  most = grind (arith, nat_tests);
  year = grind (arith, nat_tests);
}

module _ (f : Formulas) where
  pub ranged : 1 ≤ f.highest → f.highest ≤ 1000000
      → ((quote : ℕ) → 1 ≤ quote → quote ≤ f.highest → (1 ≤ f.rank quote) × (f.rank quote ≤ 1000000))
      → ((lots quote days : ℕ) → Inside f.highest lots quote days → (1 ≤ f.value lots quote days) × (f.value lots quote days ≤ 200000 * lots))
      → Ranged (market f)
  ranged some few ranks values = record {
    lowest_quote = omega arith;
    some_quote = some;
    highest_quote = few;
    rank_inside = λ q e. let p = and_parts (nat_le 1 q) (nat_le q f.highest) e in rw e (ranks q (leb-true 1 q p.0) (leb-true q f.highest p.1));
    rank_outside = λ q e. cond-false _ _ _ e;
    value_inside = λ l q d e. rw e (values l q d (inside f.highest l q d e));
    value_outside = λ l q d e. cond-false _ _ _ e;
  }

  pub dearer : ((quote : ℕ) → 1 ≤ quote → quote ≤ f.highest → (1 ≤ f.rank quote) × (f.rank quote ≤ 1000000))
      → ((lots days quote other : ℕ) → Inside f.highest lots quote days → Inside f.highest lots other days → f.rank other ≤ f.rank quote → f.value lots other days ≤ f.value lots quote days)
      → Dearer (market f)
  dearer ranks values lots days quote other r = elim (cases_Bool (tradable 1 f.highest lots other days)) [
    | inr no_other ↦ rw no_other (omega arith)
    | inl of_other ↦
        let o = inside f.highest lots other days of_other in
        let other_quoted : between 1 f.highest other ≡ true = grind (arith, nat_tests) in
        elim (cases_Bool (between 1 f.highest quote)) [
          | inl quote_quoted ↦
              let of_quote : tradable 1 f.highest lots quote days ≡ true = grind (arith, nat_tests) in
              rw (of_other, of_quote) (values lots days quote other (inside f.highest lots quote days of_quote) o (rw (other_quoted, quote_quoted) at r))
          | inr unquoted ↦
              let none : f.rank other ≤ 0 = rw (other_quoted, unquoted) at r in
              let some = ranks other o.least o.most in
              absurd (omega (arith, none, some.0))
        ]
  ]

-- the value of a lot at a rate, which falls as rate × days rises
pub lot_falls : (less more : ℕ) → less ≤ more → 365000000000 / (3650000 + more) ≤ 365000000000 / (3650000 + less)
lot_falls less more h =
    let x = 365000000000 / (3650000 + more) in
    le-div x 365000000000 (3650000 + less) (omega arith)
    (omega (arith, mul-le-mul_left {m = 3650000 + less} {n = 3650000 + more} x (omega arith), div-mul-le_self 365000000000 (3650000 + more)))

pub lot_bounds : (amount : ℕ) → amount ≤ 1825000 → (1 ≤ 365000000000 / (3650000 + amount)) × (365000000000 / (3650000 + amount) ≤ 100000)
lot_bounds amount h = (le-div 1 365000000000 (3650000 + amount) (omega arith) (omega arith), div-le_of_le-mul (3650000 + amount) (omega arith))

-- rounding keeps the order, and a whole number of units
pub nearest_mono : (less more : ℕ) → less ≤ more → nearest less 3650000 ≤ nearest more 3650000
nearest_mono less more h = grind (arith, nat_tests)

pub nearest_whole : (amount units : ℕ) → amount ≤ units * 3650000 → nearest amount 3650000 ≤ units
nearest_whole amount units h = grind (arith, nat_tests)

-- what each market shows of itself
pub price_ranged : Ranged price
price_ranged =
    ranged price_formulas (omega arith) (omega arith) (λ q least most. (least, omega arith))
    (λ l q d i. (mul-le-mul i.some_lots i.least, omega (arith, mul-le-mul_left l i.most)))

pub price_dearer : Dearer price
price_dearer = dearer price_formulas (λ q least most. (least, omega arith)) (λ l d q o i j r. mul-le-mul_left l r)

pub rate_ranged : Ranged rate
rate_ranged =
    ranged rate_formulas (omega arith) (omega arith) (λ q least most. (omega arith, omega arith))
    (λ l q d i.
    let lot = lot_bounds (q * d) (mul-le-mul i.most i.year) in
    (mul-le-mul i.some_lots lot.0, omega (arith, mul-le-mul_left l lot.1)))

pub rate_dearer : Dearer rate
rate_dearer =
    dearer rate_formulas (λ q least most. (omega arith, omega arith))
    (λ l d q o i j r.
    let lower : q ≤ o = omega (arith, i.most, j.most) in
    mul-le-mul_left l (lot_falls (q * d) (o * d) (mul-le-mul_right d lower)))

pub interbank_ranged : Ranged interbank
interbank_ranged =
    ranged interbank_formulas (omega arith) (omega arith) (λ q least most. (least, omega arith))
    (λ l q d i.
    let half : l * 100000 * (q * d) ≤ l * 100000 * 1825000 = mul-le-mul_left (l * 100000) (mul-le-mul i.most i.year) in
    let interest = nearest_whole (l * 100000 * (q * d)) (l * 50000) (omega (arith, half)) in
    (omega (arith, i.some_lots), omega (arith, interest)))

pub interbank_dearer : Dearer interbank
interbank_dearer =
    dearer interbank_formulas (λ q least most. (least, omega arith))
    (λ l d q o i j r.
    omega (arith, nearest_mono (l * 100000 * (o * d)) (l * 100000 * (q * d)) (mul-le-mul_left (l * 100000) (mul-le-mul_right d r))))
