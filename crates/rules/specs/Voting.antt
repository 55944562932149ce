-- Complaints, votes and decisions; release and settlement.
use Rattle.std.specs.Prelude.{ℕ, ◌+◌, ◌/◌, ◌%◌, ◌^◌, Bool, true, false, cond, not, ◌&&◌, ◌||◌, List, [], ◌∷◌, count_by, is_none, Some, None, Option, unwrap_or, ◌==◌, nat_le, nat_lt}
use Rattle.std.specs.List.{list_any}
use Rattle.rules.specs.declared.calls.CaseName.{CaseName}
use Rattle.rules.specs.declared.closes.Close.{Close}
use Rattle.rules.specs.declared.closes.Hearing.{Hearing}
use Rattle.rules.specs.declared.closes.Stage.{Stage}
use Rattle.rules.specs.declared.closes.Stage.TheVariants.{Live, UnderVote, Annulled, Settled}
use Rattle.rules.specs.declared.refusal.Refusal.{Refusal}
use Rattle.rules.specs.declared.refusal.Refusal.TheVariants.{NoHouse, OutOfHours, NoClose, BadJury, NoParty, WrongStage, NoCase, NoVote, Undecided}
use Rattle.rules.specs.State.{Session, State, recorded, close_of}
use Rattle.rules.specs.Refusals.{refuse}
use Rattle.rules.specs.Entering.{out_of_hours}

-- a house is among these
abbrev pub has : List ℕ → (house : ℕ) → Bool
has houses house = list_any (λ h. h == house) houses

-- two of these are alike
abbrev pub some_alike : List ℕ → Bool
some_alike [] = false
some_alike (h ∷ hs) = has hs h || some_alike hs

-- a house is the buyer or the seller
abbrev pub party : Close → (house : ℕ) → Bool
party c house = c.buyer == house || c.seller == house

-- live, and never under vote before
abbrev pub unheard : Stage → Bool
unheard (Live heard) = not heard
unheard (UnderVote hearing) = false
unheard (Annulled buyer seller) = false
unheard Settled = false

-- why a complaint is refused
abbrev pub complain_rules : State → (house close : ℕ) (jury : List ℕ) → List (Option Refusal)
complain_rules s house close jury =
    refuse (nat_lt 15 house || list_any (nat_lt 15) jury) NoHouse
    ∷ refuse (out_of_hours s) OutOfHours
    ∷ refuse (not (recorded s close)) NoClose
    ∷ refuse (some_alike jury || (has jury (close_of s close).buyer || has jury (close_of s close).seller)) BadJury
    ∷ refuse (not (party (close_of s close) house)) NoParty
    ∷ refuse (not (unheard (close_of s close).stage)) WrongStage
    ∷ []

-- five jurors, no vote yet, and 300 seconds
abbrev pub heard_by : (jury : List ℕ) (clock : ℕ) → Stage
heard_by jury clock = UnderVote (record { jury = jury; yes = 0; no = 0; end = clock + 300 })

-- the house's mark in a mask of votes
abbrev pub voted : (mask house : ℕ) → Bool
voted mask house = mask / 2 ^ house % 2 == 1

-- the hearing that is read where a close is not under vote
abbrev pub no_hearing : Hearing
no_hearing = record { jury = []; yes = 0; no = 0; end = 0 }

-- the hearing of a close, if it is under vote
abbrev pub hearing_at : Stage → Option Hearing
hearing_at (Live heard) = None
hearing_at (UnderVote hearing) = Some hearing
hearing_at (Annulled buyer seller) = None
hearing_at Settled = None

-- a case of another session, or of a close that is not under vote
abbrev pub no_case : Session → State → CaseName → Bool
no_case n s c = not (c.session == n.settings.number) || (not (recorded s c.close) || is_none (hearing_at (close_of s c.close).stage))

-- the hearing that a case is about
abbrev pub hearing_of : State → CaseName → Hearing
hearing_of s c = unwrap_or (hearing_at (close_of s c.close).stage) no_hearing

-- why a vote is refused
abbrev pub vote_rules : Session → State → CaseName → (juror : ℕ) → List (Option Refusal)
vote_rules n s c juror =
    let h = hearing_of s c in
    refuse (nat_lt 15 juror) NoHouse
    ∷ refuse (no_case n s c) NoCase
    ∷ refuse (not (has h.jury juror) || ((voted h.yes juror || voted h.no juror) || nat_le h.end s.clock)) NoVote
    ∷ []

-- the juror's vote is marked
abbrev pub with_vote : Hearing → (juror : ℕ) (aye : Bool) → Hearing
with_vote h juror aye = record h { yes = h.yes + cond aye (2 ^ juror) 0; no = h.no + cond aye 0 (2 ^ juror) }

-- the votes of the jury in a mask
abbrev pub votes : Hearing → (mask : ℕ) → ℕ
votes h mask = count_by (voted mask) h.jury

-- why a decision is refused
abbrev pub decide_rules : Session → State → CaseName → List (Option Refusal)
decide_rules n s c =
    let h = hearing_of s c in
    refuse (no_case n s c) NoCase
    ∷ refuse (nat_lt (votes h h.yes) 3 && (nat_lt (votes h h.no) 3 && nat_lt s.clock h.end)) Undecided
    ∷ []

-- three yes votes annul; otherwise the close is live again, and was heard
abbrev pub annulled : Hearing → Bool
annulled h = nat_le 3 (votes h h.yes)

-- the stage that the close then comes to
abbrev pub decided : Hearing → Stage
decided h = cond (annulled h) (Annulled false false) (Live true)

-- an annulled close whose party still holds its pledged line
abbrev pub releasable : (pledges : Bool × Bool) → Close → (house : ℕ) → Stage → Bool
releasable pledges c house (Live heard) = false
releasable pledges c house (UnderVote hearing) = false
releasable pledges c house (Annulled buyer seller) = cond (c.buyer == house) (pledges.0 && not buyer) (pledges.1 && not seller)
releasable pledges c house Settled = false

-- why a release is refused
abbrev pub release_rules : Session → State → (house close : ℕ) → List (Option Refusal)
release_rules n s house close =
    refuse (nat_lt 15 house) NoHouse
    ∷ refuse (not (recorded s close)) NoClose
    ∷ refuse (not (party (close_of s close) house)) NoParty
    ∷ refuse (not (releasable n.market.pledges (close_of s close) house (close_of s close).stage)) WrongStage
    ∷ []

-- the party's own line is released
abbrev pub released : Close → (house : ℕ) → Stage → Stage
released c house (Live heard) = Live heard
released c house (UnderVote hearing) = UnderVote hearing
released c house (Annulled buyer seller) = cond (c.buyer == house) (Annulled true seller) (Annulled buyer true)
released c house Settled = Settled

-- the close is live and not under vote
abbrev pub at_live : Stage → Bool
at_live (Live heard) = true
at_live (UnderVote hearing) = false
at_live (Annulled buyer seller) = false
at_live Settled = false

-- why a settlement is refused
abbrev pub settle_rules : State → (close : ℕ) → List (Option Refusal)
settle_rules s close =
    refuse (not (recorded s close)) NoClose
    ∷ refuse (not (at_live (close_of s close).stage)) WrongStage
    ∷ []
