-- What an event at the line makes of a link of which nothing is heard, and what is told.
use Rattle.laws_time.proofs.Vocabulary.{Answer, Bool, Config, LinkTimer, List, Observed, Option, Parts, Request, Service, [], anew, arith, awaits, brings, by_event, by_frame, by_frame_begun, by_heard, cond, due_notes as due, eq-eqb, expiry, false, fold, frame_in, is_anew, is_heard, is_sabme, is_stirred, is_timer_of, is_too_long, is_xid, le-ltb, moves_link, nat_le, next}
use Rattle.laws_time.proofs.Vocabulary.{not, notes_due, option_map_or, refl, releases, wrong, ℕ, ◌&&◌, ◌||◌, ◌∙◌, ◌∷◌, ◌≡◌, ◌≤◌}
use Rattle.model_bits.specs.Stream as stream
use Rattle.model_line.specs.Event.{Event}
use Rattle.laws_trace.specs.Observer.{by_request}
use Rattle.laws_trace.specs.Units.{is_ui}

abbrev pub is_its_expiry : Service → ℕ → Event → Bool
is_its_expiry service tei (expiry timer) = is_timer_of service tei timer
is_its_expiry service tei other = false

-- The same but for what layer 3 and the other side's numbers are.
pub record IsLike (o q : Observed) : Type 0 where
  pub state : q.state ≡ o.state
  pub expiries : q.expiries ≡ o.expiries
  pub owed : q.owed ≡ o.owed

pub like-self : (o : Observed) → IsLike o o
like-self o = record { state = refl; expiries = refl; owed = refl }

one-sent : (c : Config) (service : Service) (tei : ℕ) (o : Observed) (f : List ℕ) → IsLike o (by_frame_begun c service tei o f)
one-sent c service tei o f = grind (arith, like-self)

then-like : (o p q : Observed) → IsLike o p → IsLike p q → IsLike o q
then-like o p q h i = record { state = i.state ∙ h.state; expiries = i.expiries ∙ h.expiries; owed = i.owed ∙ h.owed }

pub sent-like : (c : Config) (service : Service) (tei : ℕ) (o : Observed) (fs : List (List ℕ)) → IsLike o (fold (by_frame_begun c service tei) o fs)
sent-like c service tei o [] = like-self o
sent-like c service tei o (f ∷ fs) =
    then-like o (by_frame_begun c service tei o f) (fold (by_frame_begun c service tei) (by_frame_begun c service tei o f) fs) (one-sent c service tei o f)
    (sent-like c service tei (by_frame_begun c service tei o f) fs)

module _ (c : Config) (service : Service) (tei : ℕ) (a : Answer) (o : Observed) where
  heard-same : (m : Bool) (f : Option Parts) → m ≡ false → option_map_or (λ (f : Parts). not (is_ui f.control) || is_too_long c f) f false ≡ false
      → cond (nat_le 7 o.state && m) (anew o) (option_map_or (by_frame c o) f o) ≡ o
  heard-same m f none ui = grind arith

  pub heard-stays : (e : stream.Event) → is_heard c service tei e ≡ false → by_heard c service tei e o ≡ o
  heard-stays e quiet = grind (arith, heard-same)

  asked-like : (r : Request) → moves_link service tei r ≡ false → IsLike o (by_request c service tei r o)
  asked-like r quiet = grind (arith, like-self)

  pub calm : (what : Event) → is_stirred c service tei what ≡ false → is_its_expiry service tei what ≡ false → IsLike o (by_event c service tei what a o)
  calm h quiet mine = grind (arith, heard-stays, like-self, asked-like, sent-like, frame_in)

  pub same-awaits : (what : Event) → is_stirred c service tei what ≡ false → is_its_expiry service tei what ≡ false → (what ≡ next → ⊥) → awaits (by_event c service tei what a o) ≡ awaits o
  same-awaits what h1z h2z h3z = grind (arith, heard-stays)

  -- Nothing starts its timers anew.
  pub none-renews : (timer : LinkTimer) (what : Event) → is_stirred c service tei what ≡ false → is_its_expiry service tei what ≡ false → (q : Observed) → IsLike o q → is_anew c service tei timer o q what ≡ false
  none-renews timer what quiet mine q like = grind (arith, le-ltb, eq-eqb)

  -- And nothing is told.
  due-none : (q : Observed) (xid sabme released : Bool) → xid ≡ false → sabme ≡ false → released ≡ false → 4 ≤ o.state → q.state ≡ o.state → due service tei xid sabme released o q.state ≡ []
  due-none q xid sabme released x s r up same = grind arith

  wrong-none : (what : Event) → is_stirred c service tei what ≡ false → is_its_expiry service tei what ≡ false → (to : ℕ) → to ≡ o.state → wrong c service tei what o.state to ≡ []
  wrong-none what h1z h2z to h3z = grind arith

  brings-none : (what : Event) → is_stirred c service tei what ≡ false → (brings is_xid c service tei what ≡ false) × (brings is_sabme c service tei what ≡ false) × (releases service tei what a ≡ false)
  brings-none what h1z = grind arith

  pub no-news : (what : Event) → is_stirred c service tei what ≡ false → is_its_expiry service tei what ≡ false → 4 ≤ o.state → (q : Observed) → IsLike o q → notes_due c service tei o q what a ≡ []
  no-news what quiet mine up q like = grind (arith, brings-none, wrong-none, due-none)
