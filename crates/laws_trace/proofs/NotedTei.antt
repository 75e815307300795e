-- The first note of an event that gives contents up names their TEI, if no request does.
use Rattle.laws_trace.proofs.Vocabulary.{◌≡◌, ℕ, ◌<◌, ◌&&◌, ◌||◌, ◌++◌, Bool, true, false, not, List, [], ◌∷◌, list_any, fold, Option, Some, None, refl, sym, ap, ◌∙◌, subst, ◌⊎◌, inl, inr, ⊎_elim, arith, All, All-head, true≢false, none-some, Note, Service, Terms, notes-own, IsOwn, Config, Answer, Line, has_tei, terms, link_of, aim_of, aim_of_heard, aim_of_expiry}
use Rattle.laws_trace.proofs.Vocabulary.{aim_of_request}
use Rattle.laws_trace.proofs.Vocabulary.{unless_refused, unless_refused_told, refusal, IsProper, heard_aims, heard_proper, expiry_proper, request_proper, Change, Left, Moves, Management, TeiEvent, LineTold, Aim, at_no_link, at_management, of_aim, IsSound, IsInRange, by-down, hears, expiry, request, next, notes_of, is_loss_of, Event, seen, Card, line_at, at, after}
use Rattle.laws_trace.proofs.Vocabulary.{card_answer as answer, CardIsSound, Refusal, Request, TeiIsInRange}
use Rattle.model_teis.proofs.OfNetwork.LawLemmas as tei_lemmas
use Rattle.model_teis.specs.network.Events as teis
use Rattle.model_teis.proofs.OfTerminal.Served.{leads}
use Rattle.model_teis.specs.terminal.Events as terminals
use Rattle.model_teis.specs.terminal.Laws as terminal_laws
use Rattle.model_teis.specs.terminal.Machine.{Terminal}
use Rattle.model_teis.specs.terminal.Rows as rows
use Rattle.model_teis.specs.terminal.Words.{Course}
use Rattle.model_line.proofs.Managed.{idle_course}
use Rattle.model_line.specs.Effect.{Effect, at_terminal, of_change, of_network, of_terminal, told_of_management}
use Rattle.model_line.specs.Line.{Own, is_terminal, terminal_in, with_terminal}
use Rattle.model_line.specs.Machine as lines
use Rattle.model_line.specs.Sound.{IsOfSide}
use Rattle.model_card.specs.Event as card_event
use Rattle.laws_line.proofs.TeiNotes.{ByChange, noted}
use Rattle.laws_trace.specs.GivenUpIsTold.{asked_by, named_by, first_of}
use Rattle.laws_trace.proofs.ManagingNotes.{behind}
use Rattle.laws_trace.proofs.NewsOfLeaving.{next-keeps}
use Rattle.laws_trace.proofs.OneLink.{Goes, is_at_link, event-goes}
use Rattle.laws_trace.proofs.OneTei.{IsOf, Leaves, at-card, change-stays, ending, full-ends, left-by, link-stays, of-tei}
use Rattle.laws_trace.proofs.PlacesSeen.{lost_in, heard-loses, expiry-loses}

-- The notes of a link name its TEI, and come behind those of TEI management.
own-first : (t : Terms) (p : Note → Bool) (ns : List Note) → All (IsOwn t) ns → list_any p ns ≡ true → first_of ns ≡ Some t.tei
own-first t p [] all some = absurd (true≢false (sym some))
own-first t p (n ∷ ns) all some = grind (arith, All-head)

first-stays : (tei : ℕ) (ns more : List Note) → first_of ns ≡ Some tei → first_of (ns ++ more) ≡ Some tei
first-stays tei ns more first = grind (arith, none-some)

-- A TEI that leaves is noted, unless its removal is asked for: by the network's side,
abbrev IsKept : TeiEvent → Type 0
IsKept (teis.remove n) = ⊥
IsKept other = Unit {0}

first-left : (e : TeiEvent) (tei place : ℕ) (o : Option Change) (ns : List Note) → IsKept e → ByChange e o ns → o ≡ Some (Left tei place) → first_of ns ≡ Some tei
first-left e tei place o ns kept by is = grind arith

-- and at a terminal.
abbrev IsKeptThere : terminals.Event → Type 0
IsKeptThere (terminals.remove n) = ⊥
IsKeptThere other = Unit {0}

answers-stay : (on : List ℕ) (x : Course) → (fold rows.answered x on).told.change ≡ x.told.change
answers-stay [] x = refl
answers-stay (tei ∷ on) x = answers-stay on (rows.answer tei x) ∙ (grind arith)

noted-there : (m : Terminal) (e : terminals.Event) → IsKeptThere e → (tei place : ℕ) → (terminals.told e m).change ≡ Some (Left tei place) → first_of (told_of_management (terminals.told e m)).notes ≡ Some tei
unfolding terminals.course
noted-there m e kept tei place is = grind (arith, answers-stay, none-some)

-- So by what an event aims at.
abbrev Keeps : Aim → Type 0
Keeps (at_management e) = IsKept e
Keeps other = Unit {0}

module _ (c : Config) (l : Line) (s : IsSound c l) (tei : ℕ) where
  abbrev Names : Effect → Type 0
  Names f = Leaves c l s tei f.line → first_of f.told.notes ≡ Some tei

  by-change : (o : Option Change) (t : LineTold) (m : Management) (own : Own) → Moves l.management.places o m.places
      → ((place : ℕ) → o ≡ Some (Left tei place) → first_of t.notes ≡ Some tei) → Names (of_change c o t (record l { management = m; own = own }))
  by-change o t m own moves first x =
      let new = record l { management = m; own = own } in
      let p = left-by c l s tei o m moves x.0 (sym (change-stays c l s tei o t new) ∙ x.1) in
      let b = behind c t new o in
      ap first_of b.notes ∙ first-stays tei t.notes b.others (first p.0 p.1)

  by-network : (e : TeiEvent) → TeiIsInRange e → IsKept e → Names (of_network c e l)
  by-network e range kept =
      let t = teis.told e l.management in
      by-change t.change (told_of_management t) (teis.after e l.management) l.own (tei_lemmas.changes_are_told e l.management range s.management)
      (λ place is. first-left e tei place t.change t.notes kept (noted e l.management s.management) is)

  by-terminal : (e : terminals.Event) → is_terminal c ≡ true → terminal_laws.IsInRange e → IsKeptThere e → Names (of_terminal c e l)
  by-terminal e is range kept =
      let t = terminals.told e (terminal_in l) in
      let new = with_terminal (terminals.after e (terminal_in l)) l in
      by-change t.change (told_of_management t) new.management new.own (leads e (terminal_in l) range (subst (λ b. IsOfSide b l.management l.own) is s.own).0).moves
      (λ place left. noted-there (terminal_in l) e kept tei place left)

  expired : (b : Bool) → is_terminal c ≡ b → Names (of_terminal c terminals.expiry l)
  expired b is = grind (arith, by-terminal, idle_course, true≢false)

  aim-names : (aim : Aim) → IsProper c l aim → Keeps aim → Names (of_aim c aim l)
  aim-names (at_management e) proper kept = grind (arith, by-terminal, by-network)
  aim-names (at_terminal terminals.expiry) proper kept = expired (is_terminal c) refl
  aim-names (at_terminal e) proper kept = grind (arith, by-terminal)
  aim-names at_no_link proper kept = by-down c l s Names (λ x. absurd (true≢false (sym x.0 ∙ x.1)))
  aim-names other proper kept = λ x. absurd (true≢false (sym x.0 ∙ x.1))

  -- A request that names no TEI is none of a link, and removes none.
  by-request : (r : Request) (o : Option Refusal) → IsProper c l (unless_refused o (aim_of_request r l)) → named_by r ≡ None
      → Leaves c l s tei (of_aim c (unless_refused o (aim_of_request r l)) l).line
      → first_of (notes_of (unless_refused_told o (of_aim c (unless_refused o (aim_of_request r l)) l))) ≡ Some tei
  by-request r o proper un h = grind (arith, aim-names, none-some, true≢false)

  no-link : (service : Service) (r : Request) (o : Option Refusal) → named_by r ≡ None → is_at_link service tei (unless_refused o (aim_of_request r l)) ≡ true → ⊥
  no-link service r o un at = grind (arith, none-some, true≢false)

-- One event of a line: a link that gives up what it keeps tells so,
module _ (service : Service) (tei : ℕ) (c : Config) (ranged : IsInRange c) (l : Line) (s : IsSound c l) where
  abbrev a : Event → Answer
  a e = lines.answer c e l

  abbrev Ends : Event → Type 0
  Ends e = ending service tei e l (lines.after c e l) (a e) ≡ true

  lost-so : (has lost there : Bool) → (has && (lost || not there)) ≡ true → (has ≡ true → there ≡ false → ⊥) → lost ≡ true
  lost-so has lost there ends stays = grind arith

  of-link : (e : Event) → asked_by e ≡ None → Ends e → lost_in service tei (seen e (a e)) ≡ list_any (is_loss_of service tei) (notes_of (a e))
      → is_at_link service tei (aim_of c e l) ≡ true → first_of (notes_of (a e)) ≡ Some tei
  of-link e un ends shown its = go (event-goes c e l service tei s)
    where
      lost : lost_in service tei (seen e (a e)) ≡ true
      lost =
          lost-so (has_tei tei l) (lost_in service tei (seen e (a e))) (has_tei tei (lines.after c e l)) ends
          (λ on off. link-stays c l s service tei tei e its (on, off))

      go : Goes c service tei e l (lines.after c e l) (a e) → first_of (notes_of (a e)) ≡ Some tei
      go (inl x) = absurd (true≢false (sym its ∙ x.aims))
      go (inr (inl x)) =
          own-first (terms c service tei) (is_loss_of service tei) (notes_of (a e))
          (subst (All (IsOwn (terms c service tei))) (sym x.notes) (notes-own (terms c service tei) x.event (link_of service tei l))) (sym shown ∙ lost)
      go (inr (inr x)) = absurd (none-some tei (sym un ∙ ap asked_by x.by.0))

  -- and a TEI that leaves is noted.
  first-so : (e : Event) → asked_by e ≡ None → Ends e → IsOf c ranged l s e service tei → first_of (notes_of (a e)) ≡ Some tei
  unfolding lines.after lines.answer
  first-so (hears what) un ends =
      ⊎_elim (of-link (hears what) un ends (heard-loses service tei what (a (hears what))))
      (aim-names c l s tei (aim_of_heard c l what) (heard_proper c l what) (heard_aims c l Keeps (λ cause. tt) (λ its by place what at. tt) (λ info. tt) (λ parts service to. tt) what))
  first-so (expiry timer) un ends =
      ⊎_elim (of-link (expiry timer) un ends (expiry-loses service tei timer (a (expiry timer))))
      (aim-names c l s tei (aim_of_expiry timer l) (expiry_proper c l timer) (grind arith))
  first-so (request r) un ends =
      ⊎_elim (λ at. absurd (no-link c l s tei service r (refusal c false r l) un at)) (by-request c l s tei r (refusal c false r l) (request_proper c l r) un)
  first-so next un ends = ⊎_elim (λ at. absurd (true≢false (sym at))) (λ x. absurd (true≢false (sym (next-keeps tei c l s x.0) ∙ x.1)))

-- So it is at a card.
module _ (service : Service) (tei : ℕ) (e : Event) (un : asked_by e ≡ None) where
  abbrev pub IsNamed : Line → Line → Answer → Type 0
  IsNamed before new b = (ending service tei e before new b ≡ false) ⊎ (first_of (notes_of b) ≡ Some tei)

  noted-line : (c : Config) → IsInRange c → (l : Line) → IsSound c l → IsNamed l (lines.after c e l) (lines.answer c e l)
  noted-line c ranged l s = go (ending service tei e l (lines.after c e l) (lines.answer c e l)) refl
    where
      go : (b : Bool) → ending service tei e l (lines.after c e l) (lines.answer c e l) ≡ b → IsNamed l (lines.after c e l) (lines.answer c e l)
      go false none = inl none
      go true ends = ⊎_elim (λ none. inl none) (λ x. inr (first-so service tei c ranged l s e un ends x)) (of-tei c ranged l s e service tei)

  pub noted-tei : (card : Card) (number : ℕ) → CardIsSound card → number < card.config.lines
      → IsNamed (line_at number card) (line_at number (after (card_event.at number e) card)) (answer (card_event.at number e) card)
  noted-tei card number s here =
      at-card card number e s here (IsNamed (line_at number card)) (λ takes. inl (full-ends service tei card number e takes))
      (λ safe. noted-line card.config s.config (line_at number card) safe)
