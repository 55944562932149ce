-- What is read from the table of two houses, and what a write to it changes.
use Rattle.std.proofs.Common.{◌≡◌, ℕ, zero, suc, ◌+◌, ◌*◌, ◌^◌, ◌<◌, ◌≤◌, true, false, cond, List, [], ◌∷◌, map, length, get_or, set, replicate, arith}
use Rattle.std.proofs.lemmas.List.{get_or-set_same, get_or-set_other, get_or-map, get_or-replicate, map-set, length-map}
use Rattle.std.proofs.lemmas.Bool.Decides.{nat_tests}
use Rattle.lines.specs.Credit.{is}
use Rattle.lines.specs.Rules.{two_houses, Sound}
use Rattle.lines.specs.Of.{credit, figure_at}
use Rattle.lines.specs.declared.table.Stance.{Stance}
use Rattle.lines.specs.declared.table.Lines.{Lines}

module _ {X : Type 0} (f : Stance → X) (none : X) where
  -- read at its place
  pub figure_read : (ss : List Stance) (d : Stance) (i g k : ℕ) → i < length ss → two_houses g k ≡ true → i ≡ g * 16 + k → f (get_or ss i d) ≡ figure_at f none ss g k
  figure_read ss d i g k h two e = grind (arith, nat_tests, get_or-map f ss i d none h)

  -- a write for a on b changes the figure of a on b alone
  pub figure_written : (ss : List Stance) (s : Stance) (i a b : ℕ) → i < length ss → two_houses a b ≡ true → i ≡ a * 16 + b
      → (g k : ℕ) → figure_at f none (set ss i s) g k ≡ cond (is a b g k) (f s) (figure_at f none ss g k)
  figure_written ss s i a b h two e g k =
      let m = map-set f ss i s in
      let same = get_or-set_same (map f ss) i (f s) none in
      let other = get_or-set_other (map f ss) i (g * 16 + k) (f s) none in
      let l : length (map f ss) ≡ length ss = length-map ss f in
      grind (arith, nat_tests)

  -- a table with one entry throughout
  pub figure_all : (s : Stance) (g k : ℕ) → two_houses g k ≡ true → f s ≡ figure_at f none (replicate 256 s) g k
  figure_all s g k two =
      let within : g * 16 + k < 256 = grind (arith, nat_tests) in
      let there = get_or-replicate 256 (g * 16 + k) (f s) none within in
      grind (arith, nat_tests)

-- every line of a table keeps to its limit, and every limit to the ceiling
kept : (ss : List Stance) (i : ℕ)
    → (get_or (map (λ s. s.line.used) ss) i 0 ≤ get_or (map (λ s. s.line.limit) ss) i 0) × (get_or (map (λ s. s.line.limit) ss) i 0 ≤ 10 ^ 15)
kept [] i = (omega arith, omega arith)
kept (s ∷ ss) zero = (s.line.within, s.line.capped)
kept (s ∷ ss) (suc i) = kept ss i

pub sound : (l : Lines) → Sound (credit l)
unfolding credit
sound l = record {
  within = λ g k. let h = (kept l.stances (g * 16 + k)).0 in grind (arith, nat_tests);
  capped = λ g k. let h = (kept l.stances (g * 16 + k)).1 in grind (arith, nat_tests);
  no_line = λ g k no. grind (arith, nat_tests);
  no_block = λ g k no. grind (arith, nat_tests);
}

-- what is not two houses has a line at nothing, and no block
pub unpaired : (l : Lines) (a b : ℕ) → two_houses a b ≡ false → ((credit l).limit a b ≡ 0) × ((credit l).used a b ≡ 0) × ((credit l).blocked a b ≡ false)
unpaired l a b apart =
    let s = sound l in
    (s.no_line a b apart, omega (arith, s.no_line a b apart, s.within a b), s.no_block a b apart)

-- a house has nothing used on itself
pub own_unused : (l : Lines) (a b : ℕ) → a ≡ b → (credit l).used a b ≡ 0
own_unused l a b e = let apart : two_houses a b ≡ false = grind (arith, nat_tests) in (unpaired l a b apart).1
