-- The premises of the law on expiries are met by the worked call.
use Rattle.laws_wire.proofs.Vocabulary.{arith, ◌≡◌, ◌≤◌, ◌+◌, false, [], ◌∷◌, length, refl, sym, ◌∙◌, true≢false, All, leb-true, Call, exchanged, reading, side_reading, header_of, control_of, unnumbered_of, supervisory_of, distance_of, named, seq, Data, Wire, requests, expires, at_near, doing_all, confirmed, heard_in, IsRoughTalk, StayTimely, LosesNothing, near_asks, user, network, begins}
use Rattle.laws_wire.proofs.Vocabulary.{MayRepeat, awaits_reply, moves}
use Rattle.std.specs.Prelude.{ℕ, List}
use Rattle.std.proofs.Common.{ap, ◌++◌, append-nil}
use Rattle.std.proofs.lemmas.List.Elements.{All-head, All-tail}
use Rattle.model_line.specs.Came.{came}
use Rattle.model_line.specs.Event.{Event, Answer, hears, expiry, next}
use Rattle.laws_wire.specs.Facing.{granted_of}
use Rattle.laws_wire.specs.Wire.{Step as EndStep, StepAt, Endpoint, acting, answered, at_far, contents_in, doing, expires as timer_expires, happens, loses, receives, sends, turned, unless_refused, with_first_of}
use Rattle.laws_wire.proofs.Vocabulary.{line_answer, line_takes_slot, line_after, tei_refusal, tei_course}
use Rattle.lapd_frame.specs.declared.timers.Timer.TheVariants.{T200}
use Rattle.laws_wire.specs.Arriving.{LosesNoMore}
unfoldable use Rattle.laws_wire.specs.Expiring.{how_often}
unfoldable use Rattle.laws_wire.specs.Resting.{expiries}
use Rattle.laws_wire.specs.Expiring.{most_since}
use Rattle.laws_wire.specs.Losing.{due_far}
use Rattle.laws_wire.specs.WorkedExpiring.{loses_one, asks_first, asks_twice, missing, made_good, missing_near}
use Rattle.laws_wire.proofs.OftenMoves.{moves-come-to-an-end}
use Rattle.laws_wire.proofs.OftenRun.{expiries-come-to-an-end}
use Rattle.laws_wire.proofs.PremisesMet.{can, all-of}
use Rattle.laws_wire.proofs.RecoveryMet.{none-told, heard-it}

asks-data : IsRoughTalk Call 0 (at_near (requests (Data Call 0 (1 ∷ []))))
asks-data = (refl, refl)

expiring : IsRoughTalk Call 0 (at_near (expires (T200 Call 0)))
expiring = (refl, refl)

rough : All (IsRoughTalk Call 0) loses_one
rough = all-of (IsRoughTalk Call 0) loses_one (tt, (tt, (tt, (tt, (asks-data, (tt, (tt, tt)))))))

rough-on : All (IsRoughTalk Call 0) asks_twice
rough-on = all-of (IsRoughTalk Call 0) asks_twice (expiring, (tt, (tt, (tt, (tt, (tt, (tt, (expiring, (tt, (tt, (tt, (tt, tt))))))))))))

kept : All LosesNothing asks_twice
kept = all-of LosesNothing asks_twice (tt, (tt, (tt, (tt, (tt, (tt, (tt, (tt, (tt, (tt, (tt, (tt, tt))))))))))))

timely : StayTimely loses_one begins
unfolding doing_all StayTimely
timely = (tt, ((tt, tt), ((tt, tt), (tt, (tt, (tt, (tt, tt)))))))

-- T200 expires in state 7, both times
in-7 : (awaits_reply Call 0 missing.near ≡ false) × MayRepeat Call 0 missing.near
unfolding line_after line_answer line_takes_slot exchanged reading side_reading header_of control_of unnumbered_of supervisory_of tei_course tei_refusal seq distance_of named doing_all
in-7 = (refl, none-told)

abbrev once : Wire
once = doing_all asks_first missing

in-7-again : (awaits_reply Call 0 once.near ≡ false) × MayRepeat Call 0 once.near
unfolding line_after line_answer line_takes_slot exchanged reading side_reading header_of control_of unnumbered_of supervisory_of tei_course tei_refusal seq distance_of named doing_all
in-7-again = (refl, none-told)

timely-on : StayTimely asks_twice missing
unfolding doing_all StayTimely
timely-on = (
  (λ awaits. absurd (true≢false (sym awaits ∙ in-7.0)), in-7.1),
  (
    tt,
    (
      (tt, tt),
      ((tt, tt), (tt, (tt, ((tt, tt), ((λ awaits. absurd (true≢false (sym awaits ∙ in-7-again.0)), in-7-again.1), (tt, ((tt, tt), ((tt, tt), (tt, tt))))))))),
    ),
  ),
)

no-more : LosesNoMore Call 0 user 0 network 0 loses_one asks_twice
no-more = (can, leb-true 3 4 refl, leb-true 3 4 refl, rough, timely, (heard-it (heard_in missing.near) (confirmed Call 0) missing_near, rough-on, kept, timely-on))

-- What is no request grants nothing.
abbrev AsksNothing : EndStep → Type 0
AsksNothing (requests r) = ⊥
AsksNothing other = Unit {0}

abbrev AsksNothingAt : StepAt → Type 0
AsksNothingAt (at_near act) = AsksNothing act
AsksNothingAt (at_far act) = AsksNothing act

happens-same : (e : Event) (s : Endpoint) → contents_in e ≡ [] → length (happens e s).granted ≡ length s.granted
happens-same e s none =
    ap length
    (ap (λ xs. s.granted ++ unless_refused (answered e s) xs) none
    ∙ ap (λ ys. s.granted ++ ys) (none-more (answered e s)) ∙ append-nil s.granted)
  where
    none-more : (a : Answer) → unless_refused a [] ≡ []
    none-more a = grind arith

acting-same : (act : EndStep) (w : Wire) → AsksNothing act → granted_of (acting act w) ≡ granted_of w
acting-same (requests r) w none = absurd none
acting-same (timer_expires timer) w none = ap (λ n. n + length w.far.granted) (happens-same (expiry timer) w.near refl)
acting-same sends w none = ap (λ n. n + length w.far.granted) (happens-same next w.near refl)
acting-same receives w none = ap (λ n. n + length w.far.granted) (takes w.far.way)
  where
    takes : (way : List (List ℕ)) → length (with_first_of way w.near).granted ≡ length w.near.granted
    takes [] = refl
    takes (octets ∷ more) = happens-same (hears (came w.near.card.config.n201 octets)) w.near refl
acting-same loses w none = refl

doing-same : (k : StepAt) (w : Wire) → AsksNothingAt k → granted_of (doing k w) ≡ granted_of w
doing-same (at_near act) w none = acting-same act w none
doing-same (at_far act) w none = let same = acting-same act (turned w) none in omega (arith, same)

all-same : (ks : List StepAt) (w : Wire) → All AsksNothingAt ks → granted_of (doing_all ks w) ≡ granted_of w
unfolding doing_all
all-same [] w none = refl
all-same (k ∷ ks) w none = all-same ks (doing k w) (All-tail AsksNothingAt k ks none) ∙ doing-same k w (All-head AsksNothingAt k ks none)

nothing-asked : All AsksNothingAt asks_twice
nothing-asked = all-of AsksNothingAt asks_twice (tt, (tt, (tt, (tt, (tt, (tt, (tt, (tt, (tt, (tt, (tt, (tt, tt))))))))))))

-- so the law says what the worked values show
few : length (heard_in missing.far) + how_often (near_asks Call 0) asks_twice missing ≤ length (due_far Call 0 made_good) + 1
few = (expiries-come-to-an-end Call user network 0 0 0 loses_one asks_twice no-more).0

few-moves : moves asks_twice missing ≤ most_since Call 0 7 missing
unfolding line_after line_answer line_takes_slot exchanged reading side_reading header_of control_of unnumbered_of supervisory_of tei_course tei_refusal seq distance_of named doing_all how_often expiries
few-moves = moves-come-to-an-end Call user network 0 0 0 7 loses_one asks_twice no-more (omega arith) (omega arith) (all-same asks_twice missing nothing-asked) (omega arith)
