-- The premises of the law on what is lost are met: by the worked call in which SABME is lost, and then an I-frame of each end.
use Rattle.laws_wire.proofs.Vocabulary.{◌≡◌, ◌≢◌, ℕ, ◌+◌, ◌≤◌, List, [], ◌∷◌, length, map, refl, sym, ap, subst, ◌∙◌, arith, All, All-nil, All-cons, Call, exchanged, reading, side_reading, header_of, control_of, unnumbered_of, supervisory_of, distance_of, named, seq, LineTold, Wire, expires, sends, loses, at_near, acting, doing_all, turns, IsStill, confirmed, indicated, data_told, heard_in}
use Rattle.laws_wire.proofs.Vocabulary.{IsRoughTalk, is_poll, is_final}
use Rattle.laws_wire.proofs.Vocabulary.{IsNoneOpen, MayRepeat, StayTimely, with_t200_expired, HasNoErrors, BothMayRepeat, HasMissing, HasArrived, StayStill, user, network, begins, loses_three, lost, recovered, Bool, Control, NoneGoes, Endpoint, flat_map, giving, happens, next, suc, zero, Option, None, gave, option_map, next_of, Taken, answered, set-get_or, append-nil, line_answer, line_takes_slot}
use Rattle.laws_wire.proofs.Vocabulary.{line_after, tei_refusal, tei_course}
use Rattle.lapd_frame.specs.declared.timers.Timer.TheVariants.{T200}
use Rattle.laws_wire.proofs.PremisesMet.{can, IsFair, all-of}
use Rattle.laws_wire.proofs.StillIsTimely.{still-is-enough}
use Rattle.laws_wire.proofs.TimelyRun.{what-is-lost-arrives}

pub rough : All (IsRoughTalk Call 0) loses_three
rough = grind (arith, all-of)

pub none-told : All IsFair []
none-told = All-nil IsFair

-- an end that has nothing to give stays as it is, and so none of its frames goes
none-taken : (o : Option Taken) → gave (option_map next_of o) ≡ gave None → o ≡ None
none-taken o e = grind arith

stays : (s : Endpoint) → answered next s ≡ gave None → happens next s ≡ s
unfolding line_after line_answer line_takes_slot
stays s e = grind (arith, none-taken, set-get_or, append-nil)

goes-on : (k : ℕ) (s : Endpoint) → happens next s ≡ s → giving k s ≡ s
unfolding giving
goes-on zero s e = refl
goes-on (suc k) s e = ap (giving k) e ∙ goes-on k s e

none-goes : (of : Bool → Control → Bool) (s : Endpoint) → answered next s ≡ gave None → s.way ≡ [] → NoneGoes of s
none-goes of s e empty = grind (arith, flat_map, goes-on, stays)

pub still-open : (w : Wire) → IsStill w → IsNoneOpen w.near w.far
still-open w h = record { commands = none-goes is_poll w.near h.near h.near_way; responses = none-goes is_final w.far h.far h.far_way }

-- SABME was lost
abbrev pub silent : Wire
silent = doing_all (at_near sends ∷ at_near loses ∷ []) begins

silent-still : IsStill silent
unfolding line_after line_answer line_takes_slot exchanged reading side_reading header_of control_of unnumbered_of supervisory_of tei_course tei_refusal seq distance_of named doing_all turns
silent-still = record { near = refl; far = refl; near_way = refl; far_way = refl }

pub silent-open : IsNoneOpen silent.near silent.far
silent-open = still-open silent silent-still

silent-may : MayRepeat Call 0 silent.near
unfolding line_after line_answer line_takes_slot exchanged reading side_reading header_of control_of unnumbered_of supervisory_of tei_course tei_refusal seq distance_of named doing_all turns
silent-may = none-told

-- the other's I-frame is lost only behind its UA
pub heard-it : (hs : List LineTold) (t : LineTold) → hs ≡ t ∷ [] → hs ≢ []
heard-it hs t is e = let wrong : t ∷ [] ≡ [] = sym is ∙ e in absurd (cc)

pub lost-near : heard_in lost.near ≡ confirmed Call 0 ∷ []
unfolding line_after line_answer line_takes_slot exchanged reading side_reading header_of control_of unnumbered_of supervisory_of tei_course tei_refusal seq distance_of named doing_all turns
lost-near = refl

lost-far : heard_in lost.far ≡ indicated Call 0 ∷ []
unfolding line_after line_answer line_takes_slot exchanged reading side_reading header_of control_of unnumbered_of supervisory_of tei_course tei_refusal seq distance_of named doing_all turns
lost-far = refl

pub timely : StayTimely loses_three begins
unfolding doing_all StayTimely
timely = grind (arith, silent-open, silent-may, heard-it, lost-near)

pub still : IsStill lost
unfolding line_after line_answer line_takes_slot exchanged reading side_reading header_of control_of unnumbered_of supervisory_of tei_course tei_refusal seq distance_of named doing_all turns
still = record { near = refl; far = refl; near_way = refl; far_way = refl }

-- one note is missing at each end
pub one-missing : (first : LineTold) (x : List ℕ) (granted : List (List ℕ)) (heard : List LineTold) → granted ≡ x ∷ [] → heard ≡ first ∷ []
    → length (first ∷ map (data_told Call 0) granted) ≤ length heard + 1
one-missing first x granted heard e e' = grind arith

near-granted : lost.near.granted ≡ (0xAB ∷ []) ∷ []
unfolding line_after line_answer line_takes_slot exchanged reading side_reading header_of control_of unnumbered_of supervisory_of tei_course tei_refusal seq distance_of named doing_all turns
near-granted = refl

far-granted : lost.far.granted ≡ (0xCD ∷ []) ∷ []
unfolding line_after line_answer line_takes_slot exchanged reading side_reading header_of control_of unnumbered_of supervisory_of tei_course tei_refusal seq distance_of named doing_all turns
far-granted = refl

missing : HasMissing Call 0 1 lost
missing = grind (arith, one-missing, far-granted, lost-near, near-granted, lost-far)

-- in state 7 N200 counts nothing
pub may : BothMayRepeat Call 0 lost
unfolding line_after line_answer line_takes_slot exchanged reading side_reading header_of control_of unnumbered_of supervisory_of tei_course tei_refusal seq distance_of named doing_all turns
may = (none-told, none-told)

-- so the law says of it that no error is told, and that all arrives
pub no-error : HasNoErrors lost
no-error = (what-is-lost-arrives Call user network 0 0 0 loses_three can rough timely).no_error

pub arrives : HasArrived Call 0 lost recovered
arrives = (what-is-lost-arrives Call user network 0 0 0 loses_three can rough timely).arrives 1 still missing may

-- T200 expires only as no turn is left, and no error is told as it does
expires-untold : ((acting (expires (T200 Call 0)) silent).near.told ≡ []) × ((acting (expires (T200 Call 0)) silent).far.told ≡ [])
unfolding line_after line_answer line_takes_slot exchanged reading side_reading header_of control_of unnumbered_of supervisory_of tei_course tei_refusal seq distance_of named doing_all turns
expires-untold = (refl, refl)

expired-told : ((with_t200_expired Call 0 lost).near.told ≡ confirmed Call 0 ∷ []) × ((with_t200_expired Call 0 lost).far.told ≡ indicated Call 0 ∷ [])
unfolding line_after line_answer line_takes_slot exchanged reading side_reading header_of control_of unnumbered_of supervisory_of tei_course tei_refusal seq distance_of named doing_all turns
expired-told = (refl, refl)

one-told : (t : LineTold) (ts : List LineTold) → IsFair t → ts ≡ t ∷ [] → All IsFair ts
one-told t ts fair e = subst (All IsFair) (sym e) (All-cons IsFair t [] fair (All-nil IsFair))

stays-still : StayStill loses_three begins
unfolding doing_all StayStill
stays-still = (
  tt,
  (
    tt,
    (
      (silent-still, (subst (All IsFair) (sym expires-untold.0) (All-nil IsFair), subst (All IsFair) (sym expires-untold.1) (All-nil IsFair))),
      (tt, ((tt, tt), ((tt, tt), (tt, (tt, (tt, (tt, ((tt, tt), ((tt, tt), ((tt, heard-it (heard_in lost.near) (confirmed Call 0) lost-near), tt)))))))))),
    ),
  ),
)

arrives-from-rest : HasArrived Call 0 lost recovered
arrives-from-rest =
    (still-is-enough Call user network 0 0 0 loses_three can rough stays-still).arrives 1 still missing
    (one-told (confirmed Call 0) _ refl expired-told.0, one-told (indicated Call 0) _ refl expired-told.1)
