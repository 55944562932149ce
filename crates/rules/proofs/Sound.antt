-- What holds of every state that calls lead to from a new session.
use Rattle.std.proofs.Common.{◌≡◌, ℕ, ◌+◌, ◌<◌, ◌≤◌, Bool, true, false, cond, not, eqb, ltb, List, [], ◌∷◌, ◌++◌, map, length, get_or, Some, None, filter, Option, sym, refl, ap, ◌∙◌, subst, inl, inr, append-nil, arith}
use Rattle.std.proofs.lemmas.Bool.{cases_Bool, cond_both, cond-true, cond-false, eqb-true, eqb-false, eq-eqb, ne_eqb, ltb-true, lt-ltb, not-false, not_from_false, and_right}
use Rattle.std.proofs.lemmas.Bool.Decides.{nat_tests}
use Rattle.std.proofs.lemmas.Option.{none-some, same_Some}
use Rattle.std.proofs.lemmas.List.{get_or-map, length-map}
use Rattle.std.proofs.lemmas.List.Elements.{All-nil, All-cons, All-head, All-tail, All-filter, All-map, All-weaker, All-push, All-contains, filter_passes}
use Rattle.std.proofs.lemmas.List.Kept.{AllPairs-filter}
use Rattle.std.proofs.lemmas.List.Quantifiers.{all_pairs_push}
use Rattle.std.specs.Prelude.{is_none, All, Contains}
use Rattle.market.specs.Meaning.{Meaning, between}
use Rattle.rules.specs.declared.offers.Exposure.{Exposure}
use Rattle.rules.specs.declared.offers.Offer.{Offer}
use Rattle.rules.specs.declared.calls.Entry.{Entry}
use Rattle.rules.specs.declared.offers.Side.{Side}
use Rattle.rules.specs.declared.offers.Side.TheVariants.{Buy, Sell}
use Rattle.rules.specs.declared.refusal.Refusal.{Refusal}
use Rattle.rules.specs.declared.refusal.Refusal.TheVariants.{BadLots, NotBetter}
use Rattle.rules.specs.State.{Session, State, seconds, put, showing}
use Rattle.rules.specs.Board.{paired, pair_of, better, met, fewer, lesser, offer_of, reduced}
use Rattle.rules.specs.Refusals.{refuse, first}
use Rattle.rules.specs.Entering.{Way, through, offered, stand, first_able, begun, replaced, shown, exposed, entered, not_better, enter_rules}
use Rattle.rules.specs.Ticking.{exposed_pair, come, lapses, after_lapses, ticked}
use Rattle.rules.specs.Laws.{NumbersDiffer, Crosses, Crossing, ShownWell, ExposuresCross}
use Rattle.rules.proofs.Lists.{first_or_later, none_in, pairs_from, pairs_rest, find_in}
use Rattle.rules.proofs.Kept.{ticked_keeps, through_keeps}
use Rattle.rules.proofs.Meeting.{Differ, met_crosses}
use Rattle.rules.proofs.Fair.{well_kept, same_number, passed_over, cross_struck, cross_void, paired_crosses, found_number, shown_keeps}

abbrev pub Given : (accepted : ℕ) → Offer → Type 0
Given accepted o = (1 ≤ o.number) × (o.number ≤ accepted)

-- the standing offers: each has lots, a number already given out, and no two have one number
pub record BoardSound (accepted : ℕ) (offers : List Offer) : Type 0 where
  pub lots : All (λ o. 0 < o.lots) offers
  pub given : All (Given accepted) offers
  pub differ : NumbersDiffer offers

map_differ : (f : Offer → Offer) → ((o : Offer) → (f o).number ≡ o.number) → (os : List Offer) → NumbersDiffer os → NumbersDiffer (map f os)
map_differ f same os differ i j d h k e =
    let below : j < length os = omega (arith, length-map os f) in
    let number : (l : ℕ) → l < length os → (get_or (map f os) l d).number ≡ (get_or os l d).number =
    λ l m. ap (λ (o : Offer). o.number) (get_or-map f os l d d m) ∙ same (get_or os l d) in
    differ i j d h below (sym (number i (omega arith)) ∙ e ∙ number j below)

module _ (accepted : ℕ) where
  pub kept_sound : (f : Offer → Bool) (os : List Offer) → BoardSound accepted os → BoardSound accepted (filter f os)
  kept_sound f os b = record {
    lots = All-filter f (λ o. 0 < o.lots) os b.lots;
    given = All-filter f (Given accepted) os b.given;
    differ = AllPairs-filter Differ f os b.differ;
  }

  pub reduced_sound : (number lots : ℕ) (os : List Offer) → BoardSound accepted os → BoardSound accepted (reduced number lots os)
  reduced_sound number lots os b =
      let f : Offer → Offer = λ o. cond (eqb o.number number) (fewer lots o) o in
      let same : (o : Offer) → (f o).number ≡ o.number = λ o. same_number (eqb o.number number) lots o in
      let has : Offer → Bool = λ o. ltb 0 o.lots in
      record {
        lots = All-weaker (λ o. has o ≡ true) (λ o. 0 < o.lots) (λ o. ltb-true 0 o.lots) (reduced number lots os) (filter_passes has (map f os));
        given = All-filter has (Given accepted) (map f os) (All-map (Given accepted) f os (All-weaker (Given accepted) (λ o. Given accepted (f o)) (λ o g. rw same g) os b.given));
        differ = AllPairs-filter Differ has (map f os) (map_differ f same os b.differ);
      }

-- where an offer is looked for by its number
pub offer_found : (os : List Offer) → NumbersDiffer os → (o : Offer) → Contains os o → offer_of o.number os ≡ o
offer_found [] d o i = absurd (none_in o i)
offer_found (p ∷ os) d o i = elim (first_or_later p os o i) [
  | inl e ↦ rw (eq-eqb p.number o.number (ap (λ (x : Offer). x.number) (sym e))) (sym e)
  | inr j ↦
      passed_over o.number true p os (ne_eqb p.number o.number (pairs_from Differ p os d o j))
      ∙ offer_found os (pairs_rest Differ p os d) o j
]

pub offer_before : (k : ℕ) (os more : List Offer) → 0 < (offer_of k os).lots → offer_of k (os ++ more) ≡ offer_of k os
offer_before k [] more some = absurd (omega arith)
offer_before k (o ∷ os) more some = elim (cases_Bool (eqb o.number k)) [
  | inl is ↦ rw is
  | inr other ↦ rw other (offer_before k os more (rw other at some))
]

pub offer_last : (os : List Offer) (o : Offer) → All (λ p. p.number ≡ o.number → ⊥) os → offer_of o.number (os ++ (o ∷ [])) ≡ o
offer_last [] o apart = rw (eq-eqb o.number o.number refl)
offer_last (p ∷ os) o apart =
    passed_over o.number true p (os ++ (o ∷ [])) (ne_eqb p.number o.number (All-head (λ q. q.number ≡ o.number → ⊥) p os apart))
    ∙ offer_last os o (All-tail (λ q. q.number ≡ o.number → ⊥) p os apart)

pub offer_kept : (f : Offer → Bool) (k : ℕ) (os : List Offer) → 0 < (offer_of k os).lots → f (offer_of k os) ≡ true → offer_of k (filter f os) ≡ offer_of k os
offer_kept f k [] some e = refl
offer_kept f k (o ∷ os) some e = elim (cases_Bool (eqb o.number k)) [
  | inl is ↦ let keeps : f o ≡ true = rw is at e in rw (keeps, is)
  | inr other ↦ passed_over k (f o) o (filter f os) other ∙ offer_kept f k os (rw other at some) (rw other at e) ∙ sym (passed_over k true o os other)
]

later_sound : (accepted : ℕ) (os : List Offer) → BoardSound accepted os → BoardSound (accepted + 1) os
later_sound accepted os b = record {
  lots = b.lots;
  given = All-weaker (Given accepted) (Given (accepted + 1)) (λ o g. (g.0, omega (arith, g.1))) os b.given;
  differ = b.differ;
}

pub board_more : (accepted : ℕ) (os : List Offer) (o : Offer) → 0 < o.lots → o.number ≡ accepted + 1 → BoardSound accepted os → BoardSound (accepted + 1) (os ++ (o ∷ []))
board_more accepted os o some is b = record {
  lots = All-push (λ p. 0 < p.lots) os o b.lots some;
  given = All-push (Given (accepted + 1)) os o (later_sound accepted os b).given (omega (arith, is), omega (arith, is));
  differ = all_pairs_push Differ os o b.differ (λ k d h e. omega (arith, (b.given k d h).1, e, is));
}

-- the board, the papers and the clock's pairs of a session
abbrev pub Sound : Session → State → Type 0
Sound n s = record {
  board : BoardSound s.accepted s.offers;
  cross : ExposuresCross n s;
  -- without an exposure time no paper is exposed
  still : seconds n.settings.exposure ≡ 0 → (paper : ℕ) → s.papers paper ≡ None;
}

module _ (n : Session) where
  -- exposed pairs cross still, where their offers are found as before
  cross_kept : (s t : State) → ((p : ℕ) → t.papers p ≡ s.papers p)
      → ((q : ℕ) (y : Exposure) → s.papers q ≡ Some y → (k : ℕ) → (offer_of k s.offers).paper ≡ q → 0 < (offer_of k s.offers).lots → offer_of k t.offers ≡ offer_of k s.offers)
      → ExposuresCross n s → ExposuresCross n t
  cross_kept s t papers keeps all q y e =
      let was : s.papers q ≡ Some y = sym (papers q) ∙ e in
      well_kept n s t q y (keeps q y was) (all q y was)

  -- an offer leaves a quiet paper
  pub sound_kept : (f : Offer → Bool) (s : State) → ((k : ℕ) (x : Exposure) → s.papers (offer_of k s.offers).paper ≡ Some x → 0 < (offer_of k s.offers).lots → f (offer_of k s.offers) ≡ true) → Sound n s → Sound n (record s { offers = filter f s.offers })
  sound_kept f s keeps h = record {
    board = kept_sound s.accepted f s.offers h.board;
    cross = cross_kept s (record s { offers = filter f s.offers }) (λ p. refl)
        (λ q y e k of_q some. offer_kept f k s.offers some (keeps k y (ap s.papers of_q ∙ e) some)) h.cross;
    still = h.still;
  }

  quieted_still : (s : State) (paper : ℕ) → Sound n s → seconds n.settings.exposure ≡ 0 → (q : ℕ) → put paper None s.papers q ≡ None
  quieted_still s paper h zero q = cond_both (eqb q paper) None (s.papers q) (λ (x : Option Exposure). x ≡ None) (λ _. refl) (λ _. h.still zero q)

  not_quiet : (s : State) (o : Offer) (x : Exposure) → s.papers o.paper ≡ Some x → not (lapses s o) ≡ true
  not_quiet s o x e = not_from_false (lapses s o) (and_right (come s.clock o.lapse) _ (ap is_none e))

  pub ticked_sound : (s : State) (clock : ℕ) → Sound n s → Sound n (after_lapses (ticked n s clock).state)
  ticked_sound s clock h =
      let t = (ticked n s clock).state in
      sound_kept _ t (λ k x e some. not_quiet t (offer_of k t.offers) x e)
      (ticked_keeps n s clock (λ u. Sound n u.state)
      (λ u paper x e g.
      let p = exposed_pair u.state x in
      record {
        board = reduced_sound u.state.accepted p.buy.number (lesser p) _ (reduced_sound u.state.accepted p.sell.number (lesser p) u.state.offers g.board);
        cross = cross_struck n u.state paper x e g.cross;
        still = quieted_still u.state paper g;
      })
      (λ u paper x e g. record { board = g.board; cross = cross_void n u.state paper x e g.cross; still = quieted_still u.state paper g }) h)

stand_board : (accepted : ℕ) (os : List Offer) (o : Offer) → o.number ≡ accepted + 1 → BoardSound accepted os → BoardSound (accepted + 1) (os ++ cond (ltb 0 o.lots) (o ∷ []) [])
stand_board accepted os o is b = elim (cases_Bool (ltb 0 o.lots)) [
  | inl some ↦ rw some (board_more accepted os o (ltb-true 0 o.lots some) is b)
  | inr none ↦ rw (none, append-nil) (later_sound accepted os b)
]

-- an entering offer on its way
record WaySound (s : State) (w : Way) : Type 0 where
  board : BoardSound s.accepted w.state.offers
  papers : w.state.papers ≡ s.papers
  accepted : w.state.accepted ≡ s.accepted
  number : w.offer.number ≡ s.accepted + 1

pub refused_none : (b : Bool) (r : Refusal) → refuse b r ≡ None → b ≡ false
refused_none true r e = absurd (none-some r (sym e))
refused_none false r e = refl

crosses_paper : (m : Meaning) (side : Side) (e o : Offer) → Crosses m side e o → o.paper ≡ e.paper
crosses_paper m Buy e o c = c.0
crosses_paper m Sell e o c = c.0

module _ (n : Session) (s : State) (o : Offer) (h : Sound n s) where
  -- a paper shows a new pair, and the offer stands
  cross_put : (t : State) (x : Exposure) (more : List Offer) → ((q : ℕ) → t.papers q ≡ put o.paper (Some x) s.papers q) → t.offers ≡ s.offers ++ more
      → ShownWell n.market o.paper x.price (exposed_pair t x) → ExposuresCross n t
  cross_put t x more papers offers well q y e = elim (cases_Bool (eqb q o.paper)) [
    | inl same ↦
        let is : x ≡ y = same_Some x y (sym (cond-true _ _ _ same) ∙ sym (papers q) ∙ e) in
        let at : q ≡ o.paper = eqb-true q o.paper same in
        subst (λ (z : Exposure). ShownWell n.market q z.price (exposed_pair t z)) is
        (subst (λ (r : ℕ). ShownWell n.market r x.price (exposed_pair t x)) (sym at) well)
    | inr differ ↦
        let was : s.papers q ≡ Some y = sym (cond-false _ _ _ differ) ∙ sym (papers q) ∙ e in
        well_kept n s t q y (λ k of_q some. ap (offer_of k) offers ∙ offer_before k s.offers more some) (h.cross q y was)
  ]

-- an entry that is accepted in a session with an exposure time
module _ (n : Session) (s : State) (o : Offer) (h : Sound n s) (is : o.number ≡ s.accepted + 1) (some : 0 < o.lots) where
  fresh : All (λ p. p.number ≡ o.number → ⊥) s.offers
  fresh k d i e = omega (arith, (h.board.given k d i).1, e, is)

  stands_last : (t : State) → t.offers ≡ s.offers → (stand o t).offers ≡ s.offers ++ (o ∷ [])
  stands_last t e = ap (λ (b : Bool). t.offers ++ cond b (o ∷ []) []) (lt-ltb 0 o.lots some) ∙ ap (λ (os : List Offer). os ++ (o ∷ [])) e

  -- the offers of the new pair are found by their numbers
  pair_found : (side : Side) (p : Offer) → offer_of p.number s.offers ≡ p → 0 < p.lots
      → (offer_of (pair_of side o p).buy.number (s.offers ++ (o ∷ [])) ≡ (pair_of side o p).buy) × (offer_of (pair_of side o p).sell.number (s.offers ++ (o ∷ [])) ≡ (pair_of side o p).sell)
  pair_found Buy p found lots = (offer_last s.offers o fresh, offer_before p.number s.offers (o ∷ []) (subst (λ (x : Offer). 0 < x.lots) (sym found) lots) ∙ found)
  pair_found Sell p found lots = (offer_before p.number s.offers (o ∷ []) (subst (λ (x : Offer). 0 < x.lots) (sym found) lots) ∙ found, offer_last s.offers o fresh)

  pair_well : (side : Side) (p : Offer) (price : ℕ) → p.paper ≡ o.paper → 0 < p.lots → Crossing n.market (pair_of side o p).sell.quote price (pair_of side o p).buy.quote
      → ShownWell n.market o.paper price (pair_of side o p)
  pair_well Buy p price paper lots c = record { buy_paper = refl; sell_paper = paper; buy_lots = some; sell_lots = lots; crossing = c }
  pair_well Sell p price paper lots c = record { buy_paper = paper; sell_paper = refl; buy_lots = lots; sell_lots = some; crossing = c }

  -- a pair with a standing offer is shown
  cross_pair : (t : State) (side : Side) (p : Offer) (x : Exposure) → offer_of p.number s.offers ≡ p → p.paper ≡ o.paper → 0 < p.lots
      → x.buy ≡ (pair_of side o p).buy.number → x.sell ≡ (pair_of side o p).sell.number
      → Crossing n.market (pair_of side o p).sell.quote x.price (pair_of side o p).buy.quote
      → ((q : ℕ) → t.papers q ≡ put o.paper (Some x) s.papers q) → t.offers ≡ s.offers → ExposuresCross n (stand o t)
  cross_pair t side p x found paper lots buy sell c papers offers =
      let all = stands_last t offers in
      let at = pair_found side p found lots in
      let b : offer_of x.buy (stand o t).offers ≡ (pair_of side o p).buy = ap (λ (os : List Offer). offer_of x.buy os) all ∙ ap (λ (k : ℕ). offer_of k (s.offers ++ (o ∷ []))) buy ∙ at.0 in
      let a : offer_of x.sell (stand o t).offers ≡ (pair_of side o p).sell = ap (λ (os : List Offer). offer_of x.sell os) all ∙ ap (λ (k : ℕ). offer_of k (s.offers ++ (o ∷ []))) sell ∙ at.1 in
      let pairs : pair_of side o p ≡ exposed_pair (stand o t) x = sym (λ i. record { buy = b i; sell = a i }) in
      cross_put n s o h (stand o t) x (o ∷ []) papers all (subst (ShownWell n.market o.paper x.price) pairs (pair_well side p x.price paper lots c))

  begun_cross : (found : Option Offer) → first_able n s o (met n.market o s.offers) ≡ found → ExposuresCross n (stand o (begun n s o found))
  begun_cross None e =
      cross_kept n s (stand o s) (λ p. refl) (λ q y x k of_q lots. ap (offer_of k) (stands_last s refl) ∙ offer_before k s.offers (o ∷ []) lots) h.cross
  begun_cross (Some p) e =
      let meets = met_crosses n.market o s.offers p (find_in _ (met n.market o s.offers) p e) in
      cross_pair (begun n s o (Some p)) o.side p
      (record { buy = (paired o p).buy.number; sell = (paired o p).sell.number; price = p.quote; end = s.clock + seconds n.settings.exposure })
      (offer_found s.offers h.board.differ p meets.0) (crosses_paper n.market o.side o p meets.1) (All-contains (λ q. 0 < q.lots) s.offers p h.board.lots meets.0) refl refl
      (paired_crosses n s o.side o o p refl refl meets.1) (λ q. refl) refl

  replaced_cross : (side : Side) (x : Exposure) → s.papers o.paper ≡ Some x → better side (n.market.rank o.quote) (n.market.rank (exposed side x s).quote) ≡ true
      → ExposuresCross n (stand o (showing o.paper (Some (replaced side o x)) s))
  replaced_cross Buy x e up =
      let a = h.cross o.paper x e in
      let p = offer_of x.sell s.offers in
      let number = found_number x.sell s.offers a.sell_lots in
      cross_pair (showing o.paper (Some (replaced Buy o x)) s) Buy p (replaced Buy o x) (ap (λ (k : ℕ). offer_of k s.offers) number)
      a.sell_paper a.sell_lots refl (sym number)
      (record { above = omega (arith, a.crossing.above, a.crossing.below, ltb-true _ _ up); below = omega arith }) (λ q. refl) refl
  replaced_cross Sell x e up =
      let a = h.cross o.paper x e in
      let p = offer_of x.buy s.offers in
      let number = found_number x.buy s.offers a.buy_lots in
      cross_pair (showing o.paper (Some (replaced Sell o x)) s) Sell p (replaced Sell o x) (ap (λ (k : ℕ). offer_of k s.offers) number)
      a.buy_paper a.buy_lots (sym number) refl
      (record { above = omega arith; below = omega (arith, a.crossing.above, a.crossing.below, ltb-true _ _ up) }) (λ q. refl) refl

  shown_cross : (x : Option Exposure) → s.papers o.paper ≡ x → not_better n s o x ≡ None → ExposuresCross n (stand o (shown n s o x))
  shown_cross None e up = begun_cross (first_able n s o (met n.market o s.offers)) refl
  shown_cross (Some x) e up = replaced_cross o.side x e (not-false _ (refused_none _ NotBetter up))

-- no rule of a list refuses where the first does not
pub all_none : (rs : List (Option Refusal)) → first rs ≡ None → All (λ r. r ≡ None) rs
all_none [] e = All-nil (λ r. r ≡ None)
all_none (None ∷ rs) e = All-cons (λ r. r ≡ None) None rs refl (all_none rs e)
all_none (Some r ∷ rs) e = absurd (none-some r (sym e))

module _ (n : Session) (s : State) (h : Sound n s) where
  at_once_sound : (o : Offer) → o.number ≡ s.accepted + 1 → seconds n.settings.exposure ≡ 0 → Sound n (stand (through n s o).offer (through n s o).state)
  at_once_sound o is zero =
      let w = through n s o in
      let ws =
      through_keeps n s o (WaySound s)
      (λ v standing _ k.
      let p = paired v.offer standing in
      record {
        board = reduced_sound s.accepted p.buy.number (lesser p) _ (reduced_sound s.accepted p.sell.number (lesser p) v.state.offers k.board);
        papers = k.papers;
        accepted = k.accepted;
        number = k.number;
      })
      (record { board = h.board; papers = refl; accepted = refl; number = is }) in
      let quiets : (p : ℕ) → w.state.papers p ≡ None = λ p. ap (λ (f : ℕ → Option Exposure). f p) ws.papers ∙ h.still zero p in
      record {
        board = stand_board w.state.accepted w.state.offers w.offer (ws.number ∙ ap (λ (k : ℕ). k + 1) (sym ws.accepted))
            (subst (λ (k : ℕ). BoardSound k w.state.offers) (sym ws.accepted) ws.board);
        cross = λ p x e. absurd (none-some x (sym (quiets p) ∙ e));
        still = λ _. quiets;
      }

  exposed_sound : (o : Offer) → o.number ≡ s.accepted + 1 → 0 < o.lots → not_better n s o (s.papers o.paper) ≡ None → (seconds n.settings.exposure ≡ 0 → ⊥)
      → Sound n (stand o (shown n s o (s.papers o.paper)))
  exposed_sound o is some up timed =
      let x = s.papers o.paper in
      let same = shown_keeps n s o x in
      record {
        board = stand_board _ _ o (is ∙ ap (λ (k : ℕ). k + 1) (sym same.1))
            (subst (λ (k : ℕ). BoardSound k (shown n s o x).offers) (sym same.1) (subst (BoardSound s.accepted) (sym same.0) h.board));
        cross = shown_cross n s o h is some x refl up;
        still = λ zero. absurd (timed zero);
      }

  pub entered_sound : (places : ℕ) (e : Entry) → first (enter_rules n places s e) ≡ None → Sound n (entered n s e).state
  entered_sound places e none =
      let rules = all_none (enter_rules n places s e) none in
      let inside : between 1 1000000 e.lots ≡ true = not-false _ (refused_none (not (between 1 1000000 e.lots)) BadLots (rules 2 None (omega arith))) in
      let some : 0 < e.lots = grind (arith, nat_tests) in
      elim (cases_Bool (eqb (seconds n.settings.exposure) 0)) [
        | inl zero ↦ rw zero (at_once_sound (offered s e) refl (eqb-true _ 0 zero))
        | inr timed ↦ rw timed (exposed_sound (offered s e) refl some (rules 6 None (omega arith)) (eqb-false _ 0 timed))
      ]
