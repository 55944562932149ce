-- What every run keeps, and that its closes are fair.
use Rattle.std.proofs.Common.{◌≡◌, ℕ, true, ◌+◌, ◌-◌, ◌<◌, not, eqb, ltb, List, [], ◌∷◌, ◌++◌, length, set, Some, None, Option, sym, refl, ap, ◌∙◌, subst, inl, inr, arith}
use Rattle.std.proofs.lemmas.Bool.{cases_Bool, cases_lt, ne_eqb, both_ways, not_from_false, ltb-false}
use Rattle.std.proofs.lemmas.Option.{none-some}
use Rattle.std.specs.Prelude.{is_some, All, Contains}
use Rattle.std.proofs.lemmas.List.{set_past}
use Rattle.std.proofs.lemmas.List.Elements.{All-nil, All-same, All-append, All-get_or, All-set, All-weaker, All-contains}
use Rattle.rules.proofs.Lists.{here, later}
use Rattle.rules.specs.declared.calls.Call.{Call}
use Rattle.rules.specs.declared.calls.Call.TheVariants.{Term, Limit, Block, Enter, Withdraw, Tick, Complain, Vote, Decide, Release, Settle}
use Rattle.rules.specs.declared.closes.Close.{Close}
use Rattle.rules.specs.declared.closes.Stage.{Stage}
use Rattle.rules.specs.declared.offers.Exposure.{Exposure}
use Rattle.rules.specs.declared.offers.Offer.{Offer}
use Rattle.rules.specs.declared.refusal.Refusal.TheVariants.{PaperExposed, TermFixed}
use Rattle.rules.specs.declared.calls.Entry.{Entry}
use Rattle.rules.specs.Entering.{through, offered, shown, entered}
use Rattle.rules.specs.State.{Session, State, seconds, put, new, staged, close_of, no_close}
use Rattle.rules.specs.Board.{offer_of}
use Rattle.rules.specs.Refusals.{first}
use Rattle.rules.specs.Ticking.{exposed_pair, closed_out, voided, ended, due, ticked, after_lapses}
use Rattle.rules.specs.Ticking as ticking
use Rattle.rules.specs.Steps.{term_rules, withdraw_rules, rules_of, effect, step}
use Rattle.rules.specs.Runs.{Made, run_from, run}
use Rattle.rules.specs.Laws.{IsFair, RunsAreFair}
use Rattle.rules.proofs.Kept.{after_call, ticked_keeps}
use Rattle.rules.proofs.Fair.{Fair, Grown, is_fair, found_number, passed_over, entered_grown, ticked_grown}
use Rattle.rules.proofs.Sound.{Given, Sound, all_none, refused_none, sound_kept, entered_sound, ticked_sound}

module _ (n : Session) where
  effect_sound : (places : ℕ) (s : State) (call : Call) → Sound n s → first (rules_of n places s call) ≡ None → Sound n (effect n s call).state
  effect_sound places s (Term paper days) h none = h
  effect_sound places s (Limit granter counterparty pesos) h none = h
  effect_sound places s (Block house other on) h none = h
  effect_sound places s (Enter e) h none = entered_sound n s h places e none
  effect_sound places s (Withdraw house offer) h none =
      let rules = all_none (withdraw_rules s house offer) none in
      let calm = refused_none (is_some (s.papers (offer_of offer s.offers).paper)) PaperExposed (rules 2 None (omega arith)) in
      sound_kept n (λ o. not (eqb o.number offer)) s (λ k x e some. not_from_false _ (ne_eqb (offer_of k s.offers).number offer (λ same.
      let is : k ≡ offer = sym (found_number k s.offers some) ∙ same in
      both_ways _ calm (ap (λ (j : ℕ). is_some (s.papers (offer_of j s.offers).paper)) (sym is) ∙ ap is_some e)))) h
  effect_sound places s (Tick clock) h none = ticked_sound n s clock h
  effect_sound places s (Complain house close jury) h none = h
  effect_sound places s (Vote c juror aye) h none = h
  effect_sound places s (Decide c) h none = h
  effect_sound places s (Release house close) h none = h
  effect_sound places s (Settle close) h none = h

-- an offer that is found stands
found_in : (k : ℕ) (os : List Offer) → 0 < (offer_of k os).lots → Contains os (offer_of k os)
found_in k [] some = absurd (omega arith)
found_in k (o ∷ os) some = elim (cases_Bool (eqb o.number k)) [
  | inl is ↦ rw is (here o os)
  | inr other ↦ subst (Contains (o ∷ os)) (sym (passed_over k true o os other)) (later o os (offer_of k os) (found_in k os (rw other at some)))
]

-- the closes so far are fair at the days as they stand, and there is none before the first offer
abbrev FairSoFar : Session → State → Type 0
FairSoFar n s = record { fair : All (Fair n.market s.days) s.closes; none : s.accepted ≡ 0 → s.closes ≡ [] }

module _ (n : Session) where
  far_grown : (s t : State) → Grown n.market s t → (t.accepted ≡ 0 → t.closes ≡ []) → FairSoFar n s → FairSoFar n t
  far_grown s t g none h = record {
    fair = subst (λ (d : ℕ → ℕ). All (Fair n.market d) t.closes) (sym g.days)
        (All-same (Fair n.market s.days) t.closes (s.closes ++ g.more) g.closes (All-append (Fair n.market s.days) s.closes g.more h.fair g.fair));
    none = none;
  }

  far_staged : (s : State) (close : ℕ) (stage : Stage) → FairSoFar n s → FairSoFar n (staged close stage s)
  far_staged s close stage h =
      let c : Close = record (close_of s close) { stage = stage } in
      record {
        fair = elim (cases_lt (close - 1) (length s.closes)) [
          | inl within ↦
              let was = All-get_or (Fair n.market s.days) s.closes (close - 1) no_close within h.fair in
              All-set (Fair n.market s.days) s.closes (close - 1) c (record { crossing = was.crossing; value = was.value }) h.fair
          | inr past ↦ All-same (Fair n.market s.days) _ s.closes (set_past s.closes (close - 1) c past) h.fair
        ];
        none = λ z. ap (λ (cs : List Close). set cs (close - 1) c) (h.none z);
      }

  -- before the first offer no paper is exposed, so that nothing closes
  quiet_before : (s : State) → Sound n s → s.accepted ≡ 0 → (p : ℕ) (x : Option Exposure) → s.papers p ≡ x → x ≡ None
  quiet_before s h zero_accepted p None e = refl
  quiet_before s h zero_accepted p (Some x) e =
      let a = h.cross p x e in
      let given = All-contains (Given s.accepted) s.offers (offer_of x.buy s.offers) h.board.given (found_in x.buy s.offers a.buy_lots) in
      absurd (omega (arith, given.0, given.1, zero_accepted))

  far_ticked : (s : State) (clock : ℕ) → Sound n s → FairSoFar n s → FairSoFar n (after_lapses (ticked n s clock).state)
  far_ticked s clock sound h =
      let start : ticking.Tick = record { state = record s { clock = clock }; closes = 0; voids = 0; postings = [] } in
      let accepted : (ticked n s clock).state.accepted ≡ s.accepted = ticked_keeps n s clock (λ t. t.state.accepted ≡ s.accepted) (λ t p x e same. same) (λ t p x e same. same) refl in
      far_grown s (after_lapses (ticked n s clock).state) (ticked_grown n s clock sound.cross)
      (λ z.
      let was : s.accepted ≡ 0 = sym accepted ∙ z in
      let calm : (t : ticking.Tick) (p : ℕ) (x : Exposure) → t.state.papers p ≡ Some x → t ≡ start → ⊥ =
      λ t p x e same. none-some x (sym (quiet_before s sound was p (s.papers p) refl) ∙ sym (ap (λ (u : ticking.Tick). u.state.papers p) same) ∙ e) in
      let same = ticked_keeps n s clock (λ t. t ≡ start) (λ t p x e same. absurd (calm t p x e same)) (λ t p x e same. absurd (calm t p x e same)) refl in
      ap (λ (u : ticking.Tick). u.state.closes) same ∙ h.none was)
      h

  more_accepted : (s : State) (e : Entry) → (k : ℕ) × ((entered n s e).state.accepted ≡ k + 1)
  more_accepted s e = elim (cases_Bool (eqb (seconds n.settings.exposure) 0)) [
    | inl t ↦ rw t ((through n s (offered s e)).state.accepted, refl)
    | inr u ↦ rw u ((shown n s (offered s e) (s.papers e.paper)).accepted, refl)
  ]

  effect_far : (places : ℕ) (s : State) (call : Call) → Sound n s → FairSoFar n s → first (rules_of n places s call) ≡ None → FairSoFar n (effect n s call).state
  effect_far places s (Term paper days) sound h none =
      let rules = all_none (term_rules s paper days) none in
      let before : s.accepted ≡ 0 = omega (arith, ltb-false 0 s.accepted (refused_none (ltb 0 s.accepted) TermFixed (rules 2 None (omega arith)))) in
      record { fair = All-same (Fair n.market (put paper days s.days)) s.closes [] (h.none before) (All-nil (Fair n.market (put paper days s.days))); none = h.none }
  effect_far places s (Limit granter counterparty pesos) sound h none = h
  effect_far places s (Block house other on) sound h none = h
  effect_far places s (Enter e) sound h none = far_grown s (entered n s e).state (entered_grown n s e) (λ z. absurd (omega (arith, (more_accepted s e).1, z))) h
  effect_far places s (Withdraw house offer) sound h none = h
  effect_far places s (Tick clock) sound h none = far_ticked s clock sound h
  effect_far places s (Complain house close jury) sound h none = far_staged s close _ h
  effect_far places s (Vote c juror aye) sound h none = far_staged s c.close _ h
  effect_far places s (Decide c) sound h none = far_staged s c.close _ h
  effect_far places s (Release house close) sound h none = far_staged s close _ h
  effect_far places s (Settle close) sound h none = far_staged s close _ h

  abbrev Kept : State → Type 0
  Kept s = Sound n s × FairSoFar n s

  kept_step : (places : ℕ) (s : State) (call : Call) → Kept s → Kept (step n places s call).state
  kept_step places s call k =
      after_call Kept (first (rules_of n places s call)) s (effect n s call) k
      (λ none. (effect_sound n places s call k.0 none, effect_far places s call k.0 k.1 none))

  kept_run : (calls : List Made) (s : State) → Kept s → Kept (run_from n s calls).state
  kept_run [] s k = k
  kept_run (made ∷ more) s k = kept_run more (step n made.places s made.call).state (kept_step made.places s made.call k)

  kept_new : Kept new
  kept_new = (
    record {
      board = record { lots = All-nil (λ o. 0 < o.lots); given = All-nil (Given 0); differ = λ i j d h k. absurd (omega (arith, k)) };
      cross = λ p x e. absurd (none-some x e);
      still = λ _ p. refl;
    },
    record { fair = All-nil (Fair n.market new.days); none = λ _. refl },
  )

pub runs_are_fair : RunsAreFair
runs_are_fair n calls =
    let k = kept_run n calls new (kept_new n) in
    (k.0.cross, All-weaker (Fair n.market (run n calls).state.days) (IsFair n.market (run n calls).state.days) (is_fair n.market (run n calls).state.days) (run n calls).state.closes k.1.fair)
