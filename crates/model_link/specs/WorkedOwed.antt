-- Worked values: a release that is asked for in state 5, by annex B.
use Rattle.std.specs.Prelude.{◌≡◌, ℕ, Bool, true, false, List, [], ◌∷◌, Option, None, Some, refl}
use Rattle.lapd_frame.specs.declared.controls.Control.{Control}
use Rattle.lapd_frame.specs.declared.controls.Control.TheVariants.{Sabme, Disc, Ua, Dm}
use Rattle.lapd_frame.specs.declared.notes.ErrorCode.TheVariants as code
use Rattle.lapd_frame.specs.declared.notes.Note.TheVariants as tell
use Rattle.lapd_frame.specs.declared.readings.Reading.{Reading}
use Rattle.lapd_frame.specs.declared.readings.Reading.TheVariants.{Profile, AnnexB}
use Rattle.lapd_frame.specs.declared.refusals.Refusal.{Refusal}
use Rattle.lapd_frame.specs.declared.refusals.Refusal.TheVariants.{WrongState}
use Rattle.lapd_frame.specs.declared.services.Service.TheVariants.{Call}
use Rattle.lapd_frame.specs.declared.timers.Order.TheVariants.{Start, Stop}
use Rattle.lapd_frame.specs.declared.timers.Timer.TheVariants as timer
use Rattle.model_link.specs.declared.states.State.TheVariants.{TeiAssigned, AwaitingEstablishment, AwaitingRelease}
use Rattle.model_link.specs.declared.terms.Terms.{Terms}
use Rattle.model_link.specs.declared.timers.LinkTimer.TheVariants.{T200}
use Rattle.model_link.specs.Counts.{none_counted}
use Rattle.model_link.specs.Link.{Link, fresh}
use Rattle.model_link.specs.Events.{Request, Establish, Release, Data, SetBusy, frame, Event, received, expired, requested, offer, cleared}
use Rattle.model_link.specs.Requests.{refusal}
use Rattle.model_link.specs.Words.{command, response}
use Rattle.model_link.specs.Told.{LinkTold}
unfoldable use Rattle.model_link.specs.Machine.{after_all}
use Rattle.model_link.specs.Machine.{after, told}

terms : Reading → ℕ → Terms
terms reading n200 = record { service = Call; tei = 64; k = 7; n201 = 260; n200 = n200; queue = 8; control = 8; reading = reading }

ask : Request → Event
ask request = requested request false

answer : Control → Event
answer control = received (frame (record { address = record { sapi = 0; command = false; tei = 64 }; control = control; info = [] }))

quiet : LinkTold
quiet = record { notes = []; delivered = None; unit = None; orders = []; lost = 0; given_up = 0; given_up_16 = 0; unserved = false }

-- Establish, and release: nothing is told.
owing : Link
unfolding ask terms
owing = after_all (terms AnnexB 3) (ask Establish ∷ offer ∷ ask Release ∷ []) fresh

owes : owing ≡ record fresh { state = AwaitingEstablishment; owed = true; running = Some T200 }
unfolding after_all owing ask terms
owes = refl

untold : told (terms AnnexB 3) (ask Release) (after_all (terms AnnexB 3) (ask Establish ∷ offer ∷ []) fresh) ≡ quiet
unfolding after_all ask terms quiet
untold = refl

-- Then only an establishment is granted.
again : refusal (terms AnnexB 3) owing false Release ≡ Some WrongState
unfolding after_all owing ask terms
again = refl

data_ : refusal (terms AnnexB 3) owing false (Data []) ≡ Some WrongState
unfolding after_all owing ask terms
data_ = refl

busy : refusal (terms AnnexB 3) owing false SetBusy ≡ Some WrongState
unfolding after_all owing ask terms
busy = refl

back : after_all (terms AnnexB 3) (ask Establish ∷ []) owing ≡ record fresh { state = AwaitingEstablishment; asked = true; running = Some T200 }
unfolding after_all owing ask terms
back = refl

-- The profile refuses both.
profile_release : refusal (terms Profile 3) (after_all (terms Profile 3) (ask Establish ∷ []) fresh) false Release ≡ Some WrongState
unfolding after_all ask terms
profile_release = refl

profile_establish : refusal (terms Profile 3) (after_all (terms Profile 3) (ask Establish ∷ []) fresh) false Establish ≡ Some WrongState
unfolding after_all ask terms
profile_establish = refl

-- UA: DISC, T200, state 6, no note, and no establishment is counted. A second UA: release confirm.
accepted : after_all (terms AnnexB 3) (answer (Ua true) ∷ []) owing
    ≡ record fresh { state = AwaitingRelease; running = Some T200; waiting = command (Disc true) ∷ [] }
unfolding after_all owing ask answer terms
accepted = refl

accepted_told : told (terms AnnexB 3) (answer (Ua true)) owing ≡ record quiet { orders = Start (timer.T200 Call 64) ∷ [] }
unfolding after_all owing ask answer terms quiet
accepted_told = refl

released : told (terms AnnexB 3) (answer (Ua true)) (after_all (terms AnnexB 3) (answer (Ua true) ∷ []) owing)
    ≡ record quiet { notes = tell.ReleaseConfirm Call 64 ∷ []; orders = Stop (timer.T200 Call 64) ∷ [] }
unfolding after_all owing ask answer terms quiet
released = refl

-- DM with F=1, or no answer with N200 0, or the end of the TEI: release confirm.
declined : told (terms AnnexB 3) (answer (Dm true)) owing ≡ record quiet { notes = tell.ReleaseConfirm Call 64 ∷ []; orders = Stop (timer.T200 Call 64) ∷ [] }
unfolding after_all owing ask answer terms quiet
declined = refl

declined_state : after_all (terms AnnexB 3) (answer (Dm true) ∷ []) owing ≡ fresh
unfolding after_all owing ask answer terms
declined_state = refl

unanswered : told (terms AnnexB 0) (expired T200) (after_all (terms AnnexB 0) (ask Establish ∷ offer ∷ ask Release ∷ []) fresh)
    ≡ record quiet { notes = tell.Error Call 64 code.G ∷ tell.ReleaseConfirm Call 64 ∷ []; orders = Stop (timer.T200 Call 64) ∷ [] }
unfolding after_all ask terms quiet
unanswered = refl

left : told (terms AnnexB 3) cleared owing ≡ record quiet { notes = tell.ReleaseConfirm Call 64 ∷ []; orders = Stop (timer.T200 Call 64) ∷ [] }
unfolding after_all owing ask terms quiet
left = refl
