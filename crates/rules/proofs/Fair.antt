-- The closes that a step strikes are fair.
use Rattle.std.proofs.Common.{◌≡◌, ℕ, ◌<◌, Bool, true, false, cond, eqb, ltb, List, [], ◌∷◌, ◌++◌, length, drop, Some, None, Option, sym, refl, ap, ◌∙◌, subst, inl, inr, append_assoc, append-nil, arith, length-set}
use lib.Seq.{drop-append_seam}
use Rattle.std.proofs.lemmas.List.{drop_all}
use Rattle.std.proofs.lemmas.Bool.{cases_Bool, eqb-true, eqb-false, ne_eqb, lt-ltb}
use Rattle.std.proofs.lemmas.Option.{none-some}
use Rattle.std.proofs.lemmas.List.Elements.{All-nil, All-push, All-same, All-weaker}
use Rattle.std.specs.Prelude.{All}
use Rattle.market.specs.Meaning.{Meaning}
use Rattle.rules.specs.declared.calls.Call.{Call}
use Rattle.rules.specs.declared.calls.Call.TheVariants.{Term, Limit, Block, Enter, Withdraw, Tick, Complain, Vote, Decide, Release, Settle}
use Rattle.rules.specs.declared.calls.Entry.{Entry}
use Rattle.rules.specs.declared.closes.Close.{Close}
use Rattle.rules.specs.declared.offers.Exposure.{Exposure}
use Rattle.rules.specs.declared.offers.Offer.{Offer}
use Rattle.rules.specs.declared.offers.Side.{Side}
use Rattle.rules.specs.declared.offers.Side.TheVariants.{Buy, Sell}
use Rattle.rules.specs.State.{Session, State, seconds}
use Rattle.rules.specs.Board.{Pair, paired, lesser, met, fewer, offer_of, reduced}
use Rattle.rules.specs.Closing.{close_at, struck}
use Rattle.rules.specs.Entering.{Way, through, offered, shown, begun, first_able, entered}
use Rattle.rules.specs.Ticking.{exposed_pair, quieted, due, ticked, after_lapses}
use Rattle.rules.specs.Ticking as ticking
use Rattle.rules.specs.Refusals.{first}
use Rattle.rules.specs.Steps.{rules_of, effect}
use Rattle.rules.specs.Laws.{Crosses, Crossing, ShownWell, ExposuresCross, IsFair, ClosesAreFair}
use Rattle.rules.proofs.Kept.{after_call, ticked_keeps, through_keeps}
use Rattle.rules.proofs.Meeting.{met_crosses}

pub record Fair (m : Meaning) (days : ℕ → ℕ) (c : Close) : Type 0 where
  pub crossing : Crossing m c.ask c.price c.bid
  pub value : c.value ≡ m.value c.lots c.price (days c.paper)

pub is_fair : (m : Meaning) (days : ℕ → ℕ) (c : Close) → Fair m days c → IsFair m days c
is_fair m days c f = (
  f.crossing,
  λ law. record {
    above = omega (arith, f.value, law c.lots (days c.paper) c.price c.ask f.crossing.above);
    below = omega (arith, f.value, law c.lots (days c.paper) c.bid c.price f.crossing.below);
  },
)

-- t has the closes of s and then fair ones, and the same days
abbrev pub Grown : Meaning → State → State → Type 0
Grown m s t = record { days : t.days ≡ s.days; more : List Close; closes : t.closes ≡ s.closes ++ more; fair : All (Fair m s.days) more }

module _ (n : Session) (s : State) where
  abbrev m : Meaning
  m = n.market

  -- what is new in t is fair
  abbrev NewFair : State → Type 0
  NewFair t = All (Fair m s.days) (drop (length s.closes) t.closes)

  pub grown_new : (t : State) → Grown m s t → NewFair t
  grown_new t g = All-same (Fair m s.days) _ g.more (ap (drop (length s.closes)) g.closes ∙ drop-append_seam s.closes g.more) g.fair

  -- nothing is new where there are as many closes
  none_new : (t : State) → length t.closes ≡ length s.closes → NewFair t
  none_new t e = All-same (Fair m s.days) _ [] (drop_all (length s.closes) t.closes (omega (arith, e))) (All-nil (Fair m s.days))

  pub grown_none : (t : State) → t.days ≡ s.days → t.closes ≡ s.closes → Grown m s t
  grown_none t d c = record { days = d; more = []; closes = c ∙ sym (append-nil s.closes); fair = All-nil (Fair m s.days) }

  pub grown_struck : (t : State) (p : Pair) (price : ℕ) → Crossing m p.sell.quote price p.buy.quote → Grown m s t → Grown m s (struck n t p price)
  grown_struck t p price x g = record {
    days = g.days;
    more = g.more ++ (close_at n t p price ∷ []);
    closes = ap (λ (cs : List Close). cs ++ (close_at n t p price ∷ [])) g.closes ∙ append_assoc s.closes g.more (close_at n t p price ∷ []);
    fair = All-push (Fair m s.days) g.more (close_at n t p price) g.fair
        (record { crossing = x; value = ap (λ (d : ℕ → ℕ). m.value (lesser p) price (d p.buy.paper)) g.days });
  }

  -- an entering offer on its way: only its lots change
  pub paired_crosses : (side : Side) (e f o : Offer) → f.side ≡ side → f.quote ≡ e.quote → Crosses m side e o → Crossing m (paired f o).sell.quote o.quote (paired f o).buy.quote
  paired_crosses Buy e f o p q c = rw p (record { above = omega arith; below = rw q c.2 })
  paired_crosses Sell e f o p q c = rw p (record { above = rw q c.2; below = omega arith })

  abbrev UnderWay : Offer → Way → Type 0
  UnderWay e w = (w.offer.side ≡ e.side) × (w.offer.quote ≡ e.quote) × Grown m s w.state

  way_grown : (e : Offer) → UnderWay e (through n s e)
  way_grown e =
      through_keeps n s e (UnderWay e)
      (λ w o i u. (u.0, u.1, grown_struck w.state (paired w.offer o) o.quote (paired_crosses e.side e w.offer o u.0 u.1 (met_crosses m e s.offers o i).1) u.2))
      (refl, refl, grown_none s refl refl)

  -- what is shown changes, and nothing else does
  begun_keeps : (o : Offer) (found : Option Offer) → ((begun n s o found).offers ≡ s.offers) × ((begun n s o found).accepted ≡ s.accepted) × ((begun n s o found).days ≡ s.days) × ((begun n s o found).closes ≡ s.closes)
  begun_keeps o None = (refl, refl, refl, refl)
  begun_keeps o (Some standing) = (refl, refl, refl, refl)

  pub shown_keeps : (o : Offer) (x : Option Exposure) → ((shown n s o x).offers ≡ s.offers) × ((shown n s o x).accepted ≡ s.accepted) × ((shown n s o x).days ≡ s.days) × ((shown n s o x).closes ≡ s.closes)
  shown_keeps o None = begun_keeps o (first_able n s o (met m o s.offers))
  shown_keeps o (Some x) = (refl, refl, refl, refl)

  pub entered_grown : (e : Entry) → Grown m s (entered n s e).state
  entered_grown e = elim (cases_Bool (eqb (seconds n.settings.exposure) 0)) [
    | inl t ↦ rw t (way_grown (offered s e)).2
    | inr u ↦
        let h = shown_keeps (offered s e) (s.papers e.paper) in
        rw u (grown_none (shown n s (offered s e) (s.papers e.paper)) h.2 h.3)
  ]

pub same_number : (b : Bool) (lots : ℕ) (o : Offer) → (cond b (fewer lots o) o).number ≡ o.number
same_number true lots o = refl
same_number false lots o = refl

pub passed_over : (k : ℕ) (b : Bool) (o : Offer) (os : List Offer) → eqb o.number k ≡ false → offer_of k (cond b (o ∷ os) os) ≡ offer_of k os
passed_over k true o os e = rw e
passed_over k false o os e = refl

-- an offer with lots is still found where another was reduced
still_there : (k j lots : ℕ) (os : List Offer) → (k ≡ j → ⊥) → 0 < (offer_of k os).lots → offer_of k (reduced j lots os) ≡ offer_of k os
still_there k j lots [] d some = refl
still_there k j lots (o ∷ os) d some = elim (cases_Bool (eqb o.number k)) [
  | inl is ↦
      let at : eqb o.number j ≡ false = ne_eqb o.number j (λ e. d (sym (eqb-true o.number k is) ∙ e)) in
      let has : ltb 0 o.lots ≡ true = lt-ltb 0 o.lots (rw is at some) in
      rw (at, has, is)
  | inr other ↦
      passed_over k _ _ _ (ap (λ (i : ℕ). eqb i k) (same_number (eqb o.number j) lots o) ∙ other)
      ∙ still_there k j lots os d (rw other at some)
      ∙ sym (passed_over k true o os other)
]

-- an offer with lots that is found has the number that was looked for
pub found_number : (k : ℕ) (os : List Offer) → 0 < (offer_of k os).lots → (offer_of k os).number ≡ k
found_number k [] some = absurd (omega arith)
found_number k (o ∷ os) some = elim (cases_Bool (eqb o.number k)) [
  | inl is ↦ rw is (eqb-true o.number k is)
  | inr other ↦ rw other (found_number k os (rw other at some))
]

module _ (n : Session) where
  -- a pair is shown as well as before where its offers are found as before
  pub well_kept : (s t : State) (paper : ℕ) (x : Exposure) → ((k : ℕ) → (offer_of k s.offers).paper ≡ paper → 0 < (offer_of k s.offers).lots → offer_of k t.offers ≡ offer_of k s.offers)
      → ShownWell n.market paper x.price (exposed_pair s x) → ShownWell n.market paper x.price (exposed_pair t x)
  well_kept s t paper x keeps w =
      let buy = keeps x.buy w.buy_paper w.buy_lots in
      let sell = keeps x.sell w.sell_paper w.sell_lots in
      let pairs : exposed_pair s x ≡ exposed_pair t x = sym (λ i. record { buy = buy i; sell = sell i }) in
      subst (ShownWell n.market paper x.price) pairs w

  -- the pairs of the other papers are as they were when one closes, or is void
  module _ (s : State) (paper : ℕ) (x : Exposure) (is : s.papers paper ≡ Some x) (all : ExposuresCross n s) where
    -- its offer is of another number, since it is of another paper
    apart : (i k : ℕ) → (offer_of i s.offers).paper ≡ paper → 0 < (offer_of i s.offers).lots → (q : ℕ) → (q ≡ paper → ⊥) → (offer_of k s.offers).paper ≡ q → k ≡ (offer_of i s.offers).number → ⊥
    apart i k of_paper some q d of_q e =
        let same : k ≡ i = e ∙ found_number i s.offers some in
        d (sym of_q ∙ ap (λ (h : ℕ). (offer_of h s.offers).paper) same ∙ of_paper)

    pub cross_struck : ExposuresCross n (quieted paper (struck n s (exposed_pair s x) x.price))
    cross_struck q y e = elim (cases_Bool (eqb q paper)) [
      | inl same ↦ absurd (none-some y (rw same at e))
      | inr differ ↦
          let was : s.papers q ≡ Some y = rw differ at e in
          let d = eqb-false q paper differ in
          let a = all paper x is in
          let lots = lesser (exposed_pair s x) in
          let sold = reduced (exposed_pair s x).sell.number lots s.offers in
          well_kept s (quieted paper (struck n s (exposed_pair s x) x.price)) q y
          (λ k of_q some.
          let once = still_there k (exposed_pair s x).sell.number lots s.offers (apart x.sell k a.sell_paper a.sell_lots q d of_q) some in
          still_there k (exposed_pair s x).buy.number lots sold (apart x.buy k a.buy_paper a.buy_lots q d of_q) (subst (λ (o : Offer). 0 < o.lots) (sym once) some) ∙ once)
          (all q y was)
    ]

    pub cross_void : ExposuresCross n (quieted paper s)
    cross_void q y e = elim (cases_Bool (eqb q paper)) [
      | inl same ↦ absurd (none-some y (rw same at e))
      | inr differ ↦ all q y (rw differ at e)
    ]

  abbrev TickingWell : State → ticking.Tick → Type 0
  TickingWell s t = Grown n.market s t.state × ExposuresCross n t.state

  pub ticked_grown : (s : State) (clock : ℕ) → ExposuresCross n s → Grown n.market s (after_lapses (ticked n s clock).state)
  ticked_grown s clock well =
      (ticked_keeps n s clock (TickingWell s)
      (λ t paper x e w.
      let p = exposed_pair t.state x in
      (grown_struck n s t.state p x.price (w.1 paper x e).crossing w.0, cross_struck t.state paper x e w.1))
      (λ t paper x e w. (w.0, cross_void t.state paper x e w.1))
      (grown_none n s (record s { clock = clock }) refl refl, well)).0

effect_fair : (n : Session) (s : State) (call : Call) → ExposuresCross n s → NewFair n s (effect n s call).state
effect_fair n s (Term paper days) well = none_new n s s refl
effect_fair n s (Limit granter counterparty pesos) well = none_new n s s refl
effect_fair n s (Block house other on) well = none_new n s s refl
effect_fair n s (Enter e) well = grown_new n s (entered n s e).state (entered_grown n s e)
effect_fair n s (Withdraw house offer) well = none_new n s s refl
effect_fair n s (Tick clock) well = grown_new n s (after_lapses (ticked n s clock).state) (ticked_grown n s clock well)
effect_fair n s (Complain house close jury) well = none_new n s (effect n s (Complain house close jury)).state (length-set s.closes _ _)
effect_fair n s (Vote k juror aye) well = none_new n s (effect n s (Vote k juror aye)).state (length-set s.closes _ _)
effect_fair n s (Decide k) well = none_new n s (effect n s (Decide k)).state (length-set s.closes _ _)
effect_fair n s (Release house close) well = none_new n s (effect n s (Release house close)).state (length-set s.closes _ _)
effect_fair n s (Settle close) well = none_new n s (effect n s (Settle close)).state (length-set s.closes _ _)

pub closes_are_fair : ClosesAreFair
closes_are_fair n places s call well =
    All-weaker (Fair n.market s.days) (IsFair n.market s.days) (is_fair n.market s.days) _
    (after_call (NewFair n s) (first (rules_of n places s call)) s (effect n s call) (none_new n s s refl) (λ _. effect_fair n s call well))
