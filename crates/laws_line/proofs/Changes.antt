-- What every step of TEI management is, of whatever side, with what it notes.
use Rattle.laws_line.proofs.Vocabulary.{◌≡◌, Bool, true, false, cond, List, [], ◌∷◌, Option, Some, None, IfSome, refl, sym, subst, arith, Note, Moves, Change, Management, IsSoundTable, Config, Line, LineTold, Own, Effect, nothing, is_terminal, terminal_in, of_change, of_management, of_network, of_terminal, of_terminal_if, at_a_terminal}
use Rattle.laws_line.proofs.Vocabulary.{told_of_management, IsSound, IsOfSide, IsUnused}
use Rattle.laws_line.proofs.Vocabulary.{TeiEvent, tei_told, tei_after, Terminal, TerminalEvent, terminal_told, terminal_after, IsOwnEvent}
use Rattle.laws_line.proofs.Vocabulary.{is_some, Order, Follows, t201_follows}
use Rattle.lapd_frame.specs.declared.notes.Note.TheVariants as notes
use Rattle.lapd_frame.specs.declared.timers.Order.TheVariants as orders
use Rattle.lapd_frame.specs.declared.timers.Timer.TheVariants as timers
use Rattle.model_teis.specs.network.Laws as tei_laws
use Rattle.model_teis.proofs.OfNetwork.LawLemmas as tei_lemmas
use Rattle.model_teis.specs.terminal.Events as terminals
use Rattle.model_teis.specs.terminal.Laws as terminal_laws
use Rattle.model_teis.specs.terminal.Sound as terminal
use Rattle.model_teis.specs.terminal.Words.{Course}
use Rattle.model_teis.proofs.OfTerminal.Brief as brief
use Rattle.model_teis.proofs.OfTerminal.Served.{leads}
use Rattle.model_teis.proofs.OfTerminal.Told.{t202_follows}
use Rattle.model_line.proofs.Managed.{idle_course}
use Rattle.laws_line.proofs.TeiNotes.{ByChange, noted}

-- A note of TEI management: none of a link, and none of contents.
abbrev pub IsOfTeis : Note → Type 0
IsOfTeis (notes.Assigned tei) = Unit {0}
IsOfTeis (notes.Removed tei) = Unit {0}
IsOfTeis (notes.Doubled tei) = Unit {0}
IsOfTeis notes.Denied = Unit {0}
IsOfTeis notes.Unassigned = Unit {0}
IsOfTeis notes.RemoveAll = Unit {0}
IsOfTeis other = ⊥

abbrev pub AreOfTeis : List Note → Type 0
AreOfTeis [] = Unit {0}
AreOfTeis (n ∷ ns) = IsOfTeis n × AreOfTeis ns

-- An order of the line's own timers.
abbrev pub IsOfLine : Order → Type 0
IsOfLine (orders.Start timers.T201) = Unit {0}
IsOfLine (orders.Start timers.T202) = Unit {0}
IsOfLine (orders.Stop timers.T201) = Unit {0}
IsOfLine (orders.Stop timers.T202) = Unit {0}
IsOfLine other = ⊥

abbrev pub AreOfLine : List Order → Type 0
AreOfLine [] = Unit {0}
AreOfLine (o ∷ os) = IsOfLine o × AreOfLine os

of_t201 : (before after : Bool) (os : List Order) → Follows before os after → AreOfLine os
of_t201 before after os follows = grind arith

of_t202 : (before after : Bool) (os : List Order) → terminal_laws.Follows before os after → AreOfLine os
of_t202 before after os follows = grind arith

-- The table changes so, and no more is told.
pub record Turn (l : Line) (change : Option Change) (told : LineTold) (m : Management) : Type 0 where
  pub moves : Moves l.management.places change m.places
  pub table : IsSoundTable m.places
  pub quiet : AreOfTeis told.notes
  pub contents : told.contents ≡ None
  pub ordered : AreOfLine told.orders
  pub keeps : (told.given_up ≡ 0) × (told.given_up_16 ≡ 0)

of_network_notes : (e : TeiEvent) (o : Option Change) (ns : List Note) → ByChange e o ns → AreOfTeis ns
of_network_notes e o ns by = grind arith

of_terminal_notes : (ns : List Note) → brief.AreOfTeis ns → AreOfTeis ns
of_terminal_notes ns are = grind arith

module _ (c : Config) (l : Line) (s : IsSound c l) (P : Effect → Type 0)
    (turns : (change : Option Change) (told : LineTold) (m : Management) (own : Own) → Turn l change told m → P (of_change c change told (record l { management = m; own = own }))) where
  abbrev t : Terminal
  t = terminal_in l

  sides : is_terminal c ≡ true → terminal.IsSound t × IsUnused l.management
  sides is = subst (λ b. IsOfSide b l.management l.own) is s.own

  idle : P (record { line = l; told = nothing })
  idle = turns None nothing l.management l.own (record { moves = refl; table = s.management.table; quiet = tt; contents = refl; ordered = tt; keeps = (refl, refl) })

  there : is_terminal c ≡ true → (e : TerminalEvent) → terminal_laws.IsInRange e → P (of_terminal c e l)
  there is e range =
      let led = leads e t range (sides is).0 in
      let after = terminal_after e t in
      turns (terminal_told e t).change (told_of_management (terminal_told e t)) (record l.management { reading = after.reading; places = after.places })
      (record { number = after.number; procedure = after.procedure; waiting = after.waiting })
      (record { moves = led.moves; table = led.sound.table; quiet = of_terminal_notes (terminal_told e t).notes (brief.noted e t); contents = refl; ordered = of_t202 (is_some t.procedure) (is_some after.procedure) (terminal_told e t).orders (t202_follows e t); keeps = (refl, refl) })

  here : (e : TeiEvent) → tei_laws.IsInRange e → P (of_network c e l)
  here e range =
      turns (tei_told e l.management).change (told_of_management (tei_told e l.management)) (tei_after e l.management) l.own
      (record {
        moves = tei_lemmas.changes_are_told e l.management range s.management;
        table = (tei_lemmas.sound-after e l.management range s.management).table;
        quiet = of_network_notes e (tei_told e l.management).change (tei_told e l.management).notes (noted e l.management s.management);
        contents = refl;
        ordered = of_t201 (is_some l.management.check) (is_some (tei_after e l.management).check) (tei_told e l.management).orders (t201_follows e l.management);
        keeps = (refl, refl);
      })

  in_range : (e : TeiEvent) → tei_laws.IsInRange e → IfSome (at_a_terminal e) terminal_laws.IsInRange
  in_range e range = grind arith

  there_if : is_terminal c ≡ true → (o : Option TerminalEvent) → IfSome o terminal_laws.IsInRange → P (of_terminal_if c o l)
  there_if is None range = idle
  there_if is (Some e) range = there is e range

  pub turned : (e : TeiEvent) → tei_laws.IsInRange e → P (of_management c e l)
  turned e range = go (is_terminal c) refl
    where
      go : (b : Bool) → is_terminal c ≡ b → P (cond b (of_terminal_if c (at_a_terminal e) l) (of_network c e l))
      go true is = there_if is (at_a_terminal e) (in_range e range)
      go false net = here e range

  at_rest : (b : Bool) → is_terminal c ≡ b → P (of_terminal c terminals.expiry l)
  at_rest true is = there is terminals.expiry tt
  at_rest false net =
      let none = subst (λ b. IsOfSide b l.management l.own) net s.own in
      subst (λ (course : Course). P (of_change c course.told.change (told_of_management course.told) (record l { management = record l.management { reading = course.now.reading; places = course.now.places }; own = record { number = course.now.number; procedure = course.now.procedure; waiting = course.now.waiting } })))
      (sym (idle_course c l s none.0)) idle

  pub turned-there : (e : TerminalEvent) → IsOwnEvent c e → P (of_terminal c e l)
  turned-there terminals.expiry proper = at_rest (is_terminal c) refl
  turned-there terminals.ask proper = there proper terminals.ask tt
  turned-there (terminals.verify tei) proper = there proper (terminals.verify tei) tt
  turned-there (terminals.message octets) proper = elim proper [ ]
  turned-there (terminals.assign tei) proper = elim proper [ ]
  turned-there (terminals.remove tei) proper = elim proper [ ]
  turned-there terminals.down proper = elim proper [ ]
