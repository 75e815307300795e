-- The messages of TEI management that wait stay small: what it hears are octets.
use Rattle.laws_trace.proofs.Vocabulary.{arith, ◌≡◌, ℕ, ◌<◌, ◌%◌, Bool, true, false, cond, Result, List, [], ◌∷◌, ◌++◌, length, drop, slice_get, Option, Some, None, IfSome, refl, sym, subst, Ok, All, option_map, option_map_or, unwrap_or, cond_both, All-nil, All-drop, All-head, AreOctets, Parts, reading, reading-found, Config, Aim, at_link, at_management, at_no_link, at_none, at_units}
use Rattle.laws_trace.proofs.Vocabulary.{of_aim, of_change, hears, expiry, request, next, Answer, Line}
use Rattle.laws_trace.proofs.Vocabulary.{fresh_line, aim_of_heard, aim_of_expiry, aim_of_request, heard_side, Taken, taken, line_of, side_aims, head_of, Event, line_after as after, IsSound, LineTold, UnitData, round_below, OfLink, of-links, terms, service_at, with_given_frame, with_message, with_unit, TeiEvent, tei_after, tei_told, told_of_management, Change}
use Rattle.laws_trace.proofs.Vocabulary.{Management, Refusal, Request, Timer, refusal, unless_refused}
use Rattle.laws_trace.proofs.Vocabulary.{HasOctets, GivesOctets, seen, heard, seen_told, StreamEvent, other_side, renamed}
use Rattle.std.proofs.Math.Nat.{mod-lt}
use Rattle.lapd_frame.specs.declared.faults.ReadFault.{ReadFault}
use Rattle.lapd_frame.specs.declared.overlong.Long.{Long}
use Rattle.lapd_frame.specs.declared.readings.Reading.{Reading}
use Rattle.model_line.specs.Heard.{aim_of_long}
use Rattle.model_teis.specs.network.Events as teis
use Rattle.model_teis.specs.network.Events.{down as tei_down}
use Rattle.model_teis.specs.terminal.Events as terminals
use Rattle.model_teis.specs.terminal.Events.{Event as TerminalEvent, after as terminal_after, told as terminal_told}
use Rattle.model_line.specs.Effect.{at_a_terminal, at_terminal, of_management, of_network, of_terminal, of_terminal_if, without_units}
use Rattle.model_line.specs.Line.{Own, is_terminal, seed_of, terminal_in, with_terminal}
use Rattle.model_line.specs.Taken.{message_taken, unit_taken, with_own_message}
use Rattle.model_line.proofs.TakenWalk.{either}
use Rattle.laws_trace.proofs.SmallMessages.{IsSmall, IsOfOctets, after-small}
use Rattle.laws_trace.proofs.SmallOwn as own

-- What TEI management hears are octets.
abbrev IsOfOctetsAt : Aim → Type 0
IsOfOctetsAt (at_management e) = IsOfOctets e
IsOfOctetsAt other = Unit {0}

module _ (c : Config) (l : Line) where
  info-octets : (octets : List ℕ) (parts : Parts) → AreOctets octets → reading (heard_side c) octets ≡ Ok parts → AreOctets parts.info
  info-octets octets parts h is =
      let all = subst AreOctets ((reading-found (heard_side c) octets parts h is).octets_are) h in
      subst AreOctets (drop-head (head_of (other_side c.side) (renamed c.sapi parts.address) parts.control) parts.info) (All-drop (λ octet. octet < 256) (length (head_of (other_side c.side) (renamed c.sapi parts.address) parts.control)) (head_of (other_side c.side) (renamed c.sapi parts.address) parts.control ++ parts.info) all)
    where
      drop-head : (front back : List ℕ) → drop (length front) (front ++ back) ≡ back
      drop-head [] back = refl
      drop-head (x ∷ front) back = drop-head front back

  long-aims : (q : Reading) (ui : Bool) (r : Result Long ReadFault) → IsOfOctetsAt (aim_of_long q ui l r)
  long-aims q ui r = grind arith

  heard-aims : (e : StreamEvent) → HasOctets e → IsOfOctetsAt (aim_of_heard c l e)
  heard-aims e h = grind (arith, long-aims, side_aims, info-octets)

-- What management asks for, and an expiry, is no message.
requests-tell : (r : Request) (l : Line) → IsOfOctetsAt (aim_of_request r l)
requests-tell r l = grind arith

expiries-tell : (timer : Timer) (l : Line) → IsOfOctetsAt (aim_of_expiry timer l)
expiries-tell timer l = grind arith

-- The messages of either side that wait, and the number that comes next.
pub record MessagesAreSmall (l : Line) : Type 0 where
  pub messages : All IsSmall l.management.waiting
  pub own : own.AreSmall l.own.number l.own.waiting

-- as a line begins
seed-low : (c : Config) → seed_of c < 65536
seed-low c = cond_both (is_terminal c) (unwrap_or c.seed 0 % 65536) 0 (λ n. n < 65536) (λ is. mod-lt (unwrap_or c.seed 0) (omega arith)) (λ net. omega arith)

pub fresh-small : (c : Config) → MessagesAreSmall (fresh_line c)
fresh-small c = record { messages = All-nil IsSmall; own = record { low = seed-low c; all = All-nil own.IsSmall } }

same-messages : (l now : Line) → now.management ≡ l.management → now.own ≡ l.own → MessagesAreSmall l → MessagesAreSmall now
same-messages l now management its h = record {
  messages = subst (λ (m : Management). All IsSmall m.waiting) (sym management) h.messages;
  own = subst (λ (o : Own). own.AreSmall o.number o.waiting) (sym its) h.own;
}

changed-small : (c : Config) (o : Option Change) (t : LineTold) (l : Line) → MessagesAreSmall l → MessagesAreSmall (of_change c o t l).line
changed-small c o t l h = grind (arith, same-messages)

terminal-small : (c : Config) (e : TerminalEvent) (l : Line) → MessagesAreSmall l → MessagesAreSmall (of_terminal c e l).line
terminal-small c e l h =
    let t = terminal_told e (terminal_in l) in
    changed-small c t.change (told_of_management t) (with_terminal (terminal_after e (terminal_in l)) l) (record { messages = h.messages; own = own.own-after e (terminal_in l) h.own })

terminal-if-small : (c : Config) (o : Option TerminalEvent) (l : Line) → MessagesAreSmall l → MessagesAreSmall (of_terminal_if c o l).line
terminal-if-small c o l h = grind (arith, terminal-small)

managed-small : (c : Config) (e : TeiEvent) (l : Line) → IsOfOctets e → MessagesAreSmall l → MessagesAreSmall (of_management c e l).line
managed-small c e l o h =
    cond_both (is_terminal c) (of_terminal_if c (at_a_terminal e) l) (of_network c e l) (λ f. MessagesAreSmall f.line)
    (λ is. terminal-if-small c (at_a_terminal e) l h)
    (λ net.
    let t = tei_told e l.management in
    changed-small c t.change (told_of_management t) (record l { management = tei_after e l.management }) (record { messages = after-small e l.management o h.messages; own = h.own }))

aim-small : (c : Config) (aim : Aim) (l : Line) → IsOfOctetsAt aim → MessagesAreSmall l → MessagesAreSmall (of_aim c aim l).line
aim-small c (at_none told) l o h = h
aim-small c (at_link service tei place event) l o h = same-messages l (of_aim c (at_link service tei place event) l).line refl refl h
aim-small c (at_management e) l o h = managed-small c e l o h
aim-small c (at_terminal e) l o h = terminal-small c e l h
aim-small c (at_units unit) l o h = same-messages l (of_aim c (at_units unit) l).line refl refl h
aim-small c at_no_link l o h = managed-small c tei_down (without_units l) tt (same-messages l (without_units l) refl refl h)

-- What is taken waits no more.
module _ (c : Config) (l : Line) (s : IsSound c l) (h : MessagesAreSmall l) where
  abbrev LeavesSmall : Taken → Type 0
  LeavesSmall t = MessagesAreSmall t.line

  message-leaves : (b : Bool) → IfSome (cond b (option_map (with_own_message l) (terminals.offered (terminal_in l))) (option_map (with_message l) (teis.offered c.side l.management))) LeavesSmall
  message-leaves true = go (terminals.offered (terminal_in l))
    where
      go : (o : Option (List ℕ)) → IfSome (option_map (with_own_message l) o) LeavesSmall
      go None = tt
      go (Some octets) = record { messages = h.messages; own = record { low = h.own.low; all = All-drop own.IsSmall 1 l.own.waiting h.own.all } }
  message-leaves false = go (teis.offered c.side l.management)
    where
      go : (o : Option (List ℕ)) → IfSome (option_map (with_message l) o) LeavesSmall
      go None = tt
      go (Some octets) = record { messages = All-drop IsSmall 1 l.management.waiting h.messages; own = h.own }

  unit-leaves : (o : Option UnitData) → IfSome (option_map (with_unit c l) o) LeavesSmall
  unit-leaves o = grind (arith, same-messages, with_unit)

  link-leaves : (t : Taken) → OfLink c l t → LeavesSmall t
  link-leaves t x = subst LeavesSmall (sym x.is) (same-messages l (with_given_frame c l x.number (terms c (service_at x.number) x.tei) x.what).line refl refl h)

  first-leaves : (o : Option Taken) → IfSome o (OfLink c l) → IfSome o LeavesSmall
  first-leaves o x = grind (arith, link-leaves)

  leaves-small : IfSome (taken c l) LeavesSmall
  leaves-small = grind (arith, either, message_taken, unit_taken, message-leaves, unit-leaves, slice_get, first-leaves, of-links, round_below)

  next-small : MessagesAreSmall (option_map_or line_of (taken c l) l)
  next-small = grind (arith, taken, leaves-small, IfSome, line_of)

aimed : (c : Config) (o : Option Refusal) (r : Request) (l : Line) → MessagesAreSmall l → MessagesAreSmall (of_aim c (unless_refused o (aim_of_request r l)) l).line
aimed c o r l h = grind (arith, aim-small, requests-tell)

pub messages-after : (c : Config) (e : Event) (l : Line) (a : Answer) → IsSound c l → All GivesOctets (seen e a) → MessagesAreSmall l → MessagesAreSmall (after c e l)
unfolding after
messages-after c (hears what) l a s gives h = aim-small c (aim_of_heard c l what) l (heard-aims c l what (All-head GivesOctets (heard what) (seen_told a) gives)) h
messages-after c (expiry timer) l a s gives h = aim-small c (aim_of_expiry timer l) l (expiries-tell timer l) h
messages-after c (request r) l a s gives h = aimed c (refusal c false r l) r l h
messages-after c next l a s gives h = next-small c l s h
