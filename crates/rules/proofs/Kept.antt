-- What a call keeps, and each step of a tick or of an entry on its way.
use Rattle.std.proofs.Common.{◌≡◌, ℕ, leb, List, [], ◌∷◌, Some, None, fold, Option, refl}
use Rattle.std.proofs.lemmas.Bool.{cond_both}
use Rattle.std.specs.Prelude.{Contains}
use Rattle.rules.specs.declared.offers.Exposure.{Exposure}
use Rattle.rules.specs.declared.offers.Offer.{Offer}
use Rattle.rules.specs.declared.refusal.Refusal.{Refusal}
use Rattle.rules.specs.State.{Session, State}
use Rattle.rules.specs.Board.{met}
use Rattle.rules.specs.Closing.{may_trade}
use Rattle.rules.specs.Entering.{Way, closes_with, closed_with, meet, through}
use Rattle.rules.specs.Ticking.{Tick, exposed_pair, closed_out, voided, ended, due, ticked}
use Rattle.rules.specs.Steps.{Effect, unless}
use Rattle.rules.proofs.Lists.{here, later}

-- what holds of the state before, and of the state after where no rule refuses, holds after the call
pub after_call : (P : State → Type 0) (why : Option Refusal) (s : State) (e : Effect) → P s → (why ≡ None → P e.state) → P (unless why s e).state
after_call P None s e before then = then refl
after_call P (Some refusal) s e before then = before

fold_keeps : {A B : Type 0} (f : B → A → B) (P : B → Type 0) (xs : List A) → ((b : B) (x : A) → Contains xs x → P b → P (f b x)) → (b : B) → P b → P (fold f b xs)
fold_keeps f P [] keeps b p = p
fold_keeps f P (x ∷ xs) keeps b p = fold_keeps f P xs (λ c y i. keeps c y (later x xs y i)) (f b x) (keeps b x (here x xs) p)

-- P is kept where a paper's exposure ends so
abbrev Keeps : (Tick → Type 0) → (Tick → (paper : ℕ) → Exposure → Tick) → Type 0
Keeps P after = (t : Tick) (paper : ℕ) (x : Exposure) → t.state.papers paper ≡ Some x → P t → P (after t paper x)

module _ (n : Session) where
  due_keeps : (P : Tick → Type 0) → Keeps P (closed_out n) → Keeps P (λ t paper x. voided t paper) → (t : Tick) (paper : ℕ) (x : Option Exposure) → t.state.papers paper ≡ x → P t → P (due n t paper x)
  due_keeps P closes voids t paper None e p = p
  due_keeps P closes voids t paper (Some x) e p =
      cond_both (leb x.end t.state.clock) (ended n t paper x) t P
      (λ _. cond_both (may_trade n t.state (exposed_pair t.state x) x.price) (closed_out n t paper x) (voided t paper) P (λ _. closes t paper x e p) (λ _. voids t paper x e p))
      (λ _. p)

  pub ticked_keeps : (s : State) (clock : ℕ) (P : Tick → Type 0) → Keeps P (closed_out n) → Keeps P (λ t paper x. voided t paper)
      → P (record { state = record s { clock = clock }; closes = 0; voids = 0; postings = [] }) → P (ticked n s clock)
  ticked_keeps s clock P closes voids =
      fold_keeps (λ t paper. due n t paper (t.state.papers paper)) P (0 ∷ 1 ∷ 2 ∷ 3 ∷ 4 ∷ 5 ∷ 6 ∷ 7 ∷ [])
      (λ t paper _. due_keeps P closes voids t paper (t.state.papers paper) refl)
      (record { state = record s { clock = clock }; closes = 0; voids = 0; postings = [] })

  pub through_keeps : (s : State) (o : Offer) (P : Way → Type 0) → ((w : Way) (p : Offer) → Contains (met n.market o s.offers) p → P w → P (closed_with n w p))
      → P (record { state = s; offer = o; postings = [] }) → P (through n s o)
  through_keeps s o P closes =
      fold_keeps (meet n) P (met n.market o s.offers) (λ w p i k. cond_both (closes_with n w p) (closed_with n w p) w P (λ _. closes w p i k) (λ _. k))
      (record { state = s; offer = o; postings = [] })
