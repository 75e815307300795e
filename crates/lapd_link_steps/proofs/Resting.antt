-- From one event to the next: what an entity stands for as an event begins, and as it ends.
use Rattle.lapd_link_steps.proofs.Vocabulary.{◌≡◌, ℕ, ◌-◌, ◌≤◌, arith, sym, Bool, List, [], length, drop, Option, ap, subst, ◌∙◌, Note, LinkTimer, Terms, Link, queue_of, Course, begun, Step, Entity, BareReport, link_of, if_told, course_of, Fits, Agrees, IsClear, past_at, Rests, Took}

-- none of few contents is given up yet
pub few_gone : {n from : ℕ} → n ≤ 127 → from ≡ 127 → n - from ≡ 0
few_gone few is = omega (arith, few, is)

-- an event begins: its past fits,
pub fits-resting : {terms : Terms} {e : Entity} {m : Link} {none : BareReport} → Rests terms e m → length (queue_of m) ≤ 127 → IsClear none → Fits terms (queue_of m) e none (past_at m)
fits-resting {m = m} rests few nothing =
    record {
      window = rests.window;
      received = rests.received;
      ring = rests.ring;
      queue = ap (λ n. drop n (queue_of m)) nothing.released;
      few = few;
      cause = nothing.cause;
      given_up = sym (few_gone few nothing.whole);
      whole = λ some. absurd (omega (arith, some, few, nothing.whole));
    }

-- and its course is the one that begins

pub begun-resting : {terms : Terms} {e : Entity} {m : Link} {none : BareReport} (info : List ℕ) → Rests terms e m → IsClear none → course_of info e none (past_at m) ≡ begun m
begun-resting {e = e} {m} {none} info rests nothing =
    ap (λ (notes : List Note). record (course_of info e none (past_at m)) { notes = notes }) nothing.notes
    ∙ ap (λ (b : Bool). record (course_of info e none (past_at m)) { notes = []; delivered = if_told b info }) nothing.delivered
    ∙ ap (λ (b : Bool). record (course_of info e none (past_at m)) { notes = []; delivered = (begun m).delivered; unit = if_told b info }) nothing.unit
    ∙ ap (λ (x : Option LinkTimer). record (course_of info e none (past_at m)) { notes = []; delivered = (begun m).delivered; unit = (begun m).unit; started = x }) nothing.started
    ∙ ap (λ (n : ℕ). record (begun (link_of e (past_at m))) { lost = n; unserved = none.unserved }) nothing.lost
    ∙ ap (λ (b : Bool). record (begun (link_of e (past_at m))) { unserved = b }) nothing.unserved
    ∙ ap begun rests.is

pub took-course : {terms : Terms} {info : List ℕ} {f : Step} {e e' : Entity} {t : BareReport} {m : Link} → Took terms info f e e' t → Rests terms e m → length (queue_of m) ≤ 127 → Agrees terms info (queue_of m) (f (begun m)) e' t
took-course {terms} {info} {f} {e' = e'} {t} {m} took rests few =
    subst (λ (c : Course). Agrees terms info (queue_of m) (f c) e' t) (begun-resting info rests took.nothing)
    (took.does.step (queue_of m) (past_at m) (fits-resting rests few took.nothing))

-- an event ends
pub rests-after : {terms : Terms} {info : List ℕ} {messages : List (List ℕ)} {c : Course} {e : Entity} {t : BareReport} → Agrees terms info messages c e t → Rests terms e c.link
rests-after agrees =
    record {
      window = agrees.fits.window;
      received = agrees.fits.received;
      ring = agrees.fits.ring;
      is = ap (λ (c : Course). c.link) agrees.is;
    }
