-- How an event ends.
use Rattle.lapd_link.proofs.Vocabulary.{◌≡◌, ℕ, ◌≤◌, List, length, sym, ap, subst, ◌∙◌, arith, Store, SameLimits, Owned, Terms, Event, begun, Course, Step, course, after, told, told_of, IsInRange, IsSound, sound-after, Entity, BareReport, Agrees, Rests, Took, took-course, Link, told_with, LinkStands, Reaches, Stays, terms_of}
use Rattle.model_link.specs.Link as machine
use Rattle.std.proofs.Math.Nat.{min-eq_left}
use Rattle.std.specs.Prelude.{min}
use Rattle.lapd_link_steps.specs.Past.{course_of, past_of}
use Rattle.lapd_link_steps.specs.Reports.{counting}
use Rattle.lapd_frame.specs.ShortLists.{listed}
use Rattle.model_link.specs.Told.{of_call, of_packet, orders_for}

-- the timer that runs is the machine's
pub running-at : {terms : Terms} {e : Entity} {m : machine.Link} → Rests terms e m → e.running ≡ m.running
running-at rests = ap (λ (l : machine.Link). l.running) rests.is

-- few contents are queued
pub few : {link : Link} {store : Store} {others : List Owned} {m : machine.Link} → LinkStands link store others m → length (machine.queue_of m) ≤ 127
few s = omega (arith, s.fits.sound.queue, s.fits.range.queue_high)

-- a report in which what is given up is counted, and to which the orders are put, tells what the course of the event does
pub told_settled : {t : Terms} {info : List ℕ} {messages : List (List ℕ)} {c : Course} {e : Entity} (m : machine.Link) (r counts report : BareReport)
    → Agrees t info messages c e r → counts ≡ counting t.service (min (length messages) 127) r → report ≡ record counts { orders = report.orders }
    → listed report.orders ≡ orders_for t m.running r.started e.running → told_with info report ≡ told_of t m c
told_settled {t} {info} {messages} {c} {e} m r counts report agrees is same orders =
    let all = is ∙ ap (λ n. counting t.service n r) (min-eq_left agrees.fits.few) in
    ap (told_with info) (same ∙ ap (λ (x : BareReport). record x { orders = report.orders }) all)
    ∙ (λ i. record (told_of t m (course_of info e r (past_of c))) {
      orders = orders i;
      given_up = of_call t.service (sym agrees.fits.given_up i);
      given_up_16 = of_packet t.service (sym agrees.fits.given_up i);
    })
    ∙ ap (told_of t m) agrees.is

-- what rows did is the course of the event
pub reached : {link : Link} {store : Store} {others : List Owned} {m : machine.Link} {info : List ℕ} {f : Step} {e' : Entity} {t : BareReport} → Took (terms_of link) info f link.entity e' t → LinkStands link store others m → Agrees (terms_of link) info (machine.queue_of m) (f (begun m)) e' t
reached took s = took-course took s.fits.rests (few s)

-- a link that reaches the end of an event stands for the machine's link after it
pub stands-after : {link link' : Link} {store store' : Store} {others : List Owned} {m : machine.Link} {info : List ℕ} {report : BareReport} (e : Event) → LinkStands link store others m → Stays link link' → SameLimits store store' → Reaches info m (course (terms_of link) e m) link' store' others report → LinkStands link' store' others (after (terms_of link) e m)
stands-after {link} {link'} {store} {store'} {m = m} e s stays limits reaches =
    record {
      fits =
          record {
            range = subst IsInRange (sym stays.terms) s.fits.range;
            sound = subst (λ (t : Terms). IsSound t (after (terms_of link) e m)) (sym stays.terms) (sound-after (terms_of link) s.fits.range e m s.fits.sound);
            rests = reaches.rests;
            capacity = stays.capacity ∙ s.fits.capacity ∙ ap (λ (t : Terms). t.queue) (sym stays.terms);
          };
      wide = subst (λ (t : Terms). t.n201 ≤ store'.width) (sym stays.terms) (subst (λ (w : ℕ). (terms_of link).n201 ≤ w) (sym limits.width) s.wide);
      kept = reaches.kept;
    }

-- and tells what the machine tells
pub told-after : {link link' : Link} {store' : Store} {others : List Owned} {m : machine.Link} {info : List ℕ} {report : BareReport} (e : Event) → Stays link link' → Reaches info m (course (terms_of link) e m) link' store' others report → told_with info report ≡ told (terms_of link) e m
told-after {link} {m = m} e stays reaches = reaches.told ∙ ap (λ (t : Terms). told_of t m (course (terms_of link) e m)) stays.terms
