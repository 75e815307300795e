-- A link in an image of its card, without its contents.
use Rattle.std.specs.Prelude.{◌≡◌, ℕ, ◌+◌, ◌*◌, ◌%◌, ◌≤◌, ◌⊎◌, Bool, false, IsTrue, List, [], ◌∷◌, ◌++◌, length, replicate, All, Option, None, Some}
use Rattle.lapd_frame.specs.Grammar.{allows, row, takes}
use Rattle.lapd_frame.specs.declared.readings.Reading.TheVariants.{AnnexB}
use Rattle.lapd_seq.specs.Windows.{outstanding_of, va_of}
use Rattle.model_bits.specs.Bits.{bit_value, number_of}
use Rattle.model_link.specs.Image.{counted_of, counts, link_flags, state_octet}
use Rattle.model_link.specs.declared.frames.ControlFrame.{ControlFrame}
use Rattle.model_link.specs.declared.states.State.{State}
use Rattle.model_link.specs.declared.states.State.TheVariants.{TeiAssigned, AwaitingEstablishment, AwaitingRelease, Established, TimerRecovery}
use Rattle.model_link.specs.declared.terms.Terms.{Terms}
use Rattle.model_link.specs.declared.timers.LinkTimer.{LinkTimer}
use Rattle.model_link.specs.declared.timers.LinkTimer.TheVariants.{T200, T203}
use Rattle.model_link.specs.Link.{Link, most_rc, outstanding}
use Rattle.model_link.specs.Sound.{is_information}
use Rattle.model_link.specs.Told.{runs}
use Rattle.lapd_link_steps.specs.declared.entity.Entity.{Entity}
use Rattle.lapd_link_steps.specs.declared.heads.Octets.{Octets}
use Rattle.lapd_link_steps.specs.Past.{link_of}

-- What an image has of a link before its contents (`link` of `model_link`).
abbrev pub head : Link → List ℕ
head l =
    state_octet l ∷ number_of (link_flags l) ∷ l.repeats ∷ l.a % 128 ∷ outstanding l ∷ l.r % 128 ∷ l.again ∷ counts l.counts

-- No more are outstanding than may be of any link (Q.921 clause 5.9.5).
abbrev pub IsHead : Link → Type 0
IsHead l = outstanding l ≤ 127

-- The octets before what was counted.
abbrev pub octets_of : Octets → List ℕ
octets_of o = o.state ∷ o.flags ∷ o.repeats ∷ o.va ∷ o.outstanding ∷ o.vr ∷ o.again ∷ []

-- The two flags of the timers.
abbrev pub timer_bits : Option LinkTimer → ℕ
timer_bits running = bit_value (runs T200 running) + 2 * bit_value (runs T203 running)

-- A link for which an entity stands with these contents in its queue. Of those before them nothing is known: let them be empty.
abbrev pub restored : Entity → List (List ℕ) → Link
restored e queue = link_of e (record {
  contents = replicate (va_of e.window).value [] ++ queue;
  a = (va_of e.window).value;
  s = (va_of e.window).value + outstanding_of e.window;
  r = e.vr.value;
  sent = None;
  zeroed = false;
  given_up = 0;
})

-- Its numbers have the sizes that they have in an image.
pub record IsSmall (e : Entity) : Type 0 where
  pub again : e.again ≤ 255
  pub counts : All (λ n. n ≤ 65535) (counted_of e.counts)

-- A frame that may wait, whatever its address: one of the exchange without information, and no I-frame.
pub record MayWait (f : ControlFrame) : Type 0 where
  pub kind : IsTrue (allows (row f.control).kind f.command)
  pub size : IsTrue (takes (row f.control).info 0)
  pub without_contents : is_information f.control ≡ false

-- And a list of them, for which there is room.
pub record AreWaiting (capacity : ℕ) (frames : List ControlFrame) : Type 0 where
  pub room : length frames ≤ capacity
  pub each : All MayWait frames

-- What is settled of so many contents, and of the timer, in each state (`IsSettledIn` and `IsTimedIn` of `model_link`).
abbrev pub IsSettled : State → Bool → ℕ → Type 0
IsSettled TeiAssigned asked queued = queued ≡ 0
IsSettled AwaitingEstablishment asked queued = IsTrue asked → queued ≡ 0
IsSettled AwaitingRelease asked queued = queued ≡ 0
IsSettled Established asked queued = Unit {0}
IsSettled TimerRecovery asked queued = Unit {0}

abbrev pub IsTimed : State → Option LinkTimer → ℕ → Type 0
IsTimed TeiAssigned running sent = running ≡ None
IsTimed AwaitingEstablishment running sent = running ≡ Some T200
IsTimed AwaitingRelease running sent = running ≡ Some T200
IsTimed Established running sent = (running ≡ Some T200) ⊎ ((running ≡ Some T203) × (sent ≡ 0))
IsTimed TimerRecovery running sent = running ≡ Some T200

-- A release is owed rightly (`IsOwing` of `model_link`).
abbrev pub OwesRightly : Terms → ℕ → State → Bool → Bool → Type 0
OwesRightly t queued state asked owed =
    IsTrue owed → (state ≡ AwaitingEstablishment) × (t.reading ≡ AnnexB) × (asked ≡ false) × (queued ≡ 0)

-- A link that may be saved, of which so many contents are queued, so many of them outstanding, and so many of the others go again.
pub record IsFit (t : Terms) (queued sent again : ℕ) (state : State) (own_busy pending asked owed : Bool) (rc : ℕ) (running : Option LinkTimer) : Type 0 where
  pub accepted : sent + again ≤ queued
  pub within : sent ≤ t.k
  pub settled : IsSettled state asked queued
  pub owes_nothing : IsTrue own_busy → pending ≡ false
  pub release : OwesRightly t queued state asked owed
  pub repeats : rc ≤ most_rc t
  pub timed : IsTimed state running sent
