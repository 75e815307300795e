-- A line is read from an image, and its counters.
use Rattle.std.proofs.Common.{arith, ◌≡◌, ℕ, zero, suc, ◌+◌, ◌*◌, ◌^◌, ◌<◌, ◌≤◌, Bool, true, false, List, [], ◌∷◌, ◌++◌, length, get_or, replicate, Option, Some, None, refl, sym, ap, ◌∙◌, subst}
use Rattle.std.specs.List.{range_with_len}
use Rattle.std.specs.Prelude.{All, IfSome, map, flat_map}
use Rattle.std.proofs.lemmas.List.{length-map}
use Rattle.std.proofs.lemmas.List.Elements.{All-get_or}
use Rattle.lapd_frame.specs.declared.services.Service.{Service}
use Rattle.lapd_frame.specs.declared.services.Service.TheVariants.{Call, Packet}
use Rattle.lapd_count.specs.declared.counters.Counters.{Counters}
use Rattle.model_teis.specs.network.Machine.{Management}
use Rattle.model_teis.specs.declared.terminal.procedure.Procedure.{Procedure}
use Rattle.model_teis.specs.declared.terminal.procedure.Procedure.TheVariants.{Asking, Verifying}
use Rattle.model_teis.specs.terminal.Sound as terminals
use Rattle.model_link.specs.Link.{Link, fresh}
use Rattle.model_line.specs.declared.config.Config.{Config}
use Rattle.model_line.specs.Line.{Line, Own, UnitData, is_terminal, link_count, link_at, place_at, tei_at}
use Rattle.model_line.specs.Sound.{IsSound, IsSoundAt, IsOfSide, IsUnitData}
use Rattle.lapd_image.specs.Numbers.{number, list_of}
use Rattle.model_teis.specs.TableImage.{place}
use Rattle.model_teis.specs.network.Image.{HasRi}
use Rattle.model_line.specs.Image.{service_bit, unit, own, teis, link_if, link_numbered, line, IsSavedLine}
use Rattle.model_line.specs.Same.{IsSameLine}
use Rattle.lapd_count.specs.Image.{counters, IsCounted}
use Rattle.model_link.specs.Image.{IsSavedLink}
use Rattle.model_link.specs.Same.{IsSameLink}
use Rattle.lapd_image.proofs.Reading.{heads, tails, split, Reads, number-read, front-read, contents-read, equal-read, list-read}
use Rattle.model_link.proofs.ImageRead.{small, link-read}
use Rattle.model_teis.proofs.OfNetwork.ImageRead.{places-read, management-read}
use Rattle.model_teis.proofs.OfTerminal.ImageRead.{HasNumber, AreSameBeside, beside-read}
use Rattle.model_line.proofs.Numbers.{at, below, within-range}

-- a service by its bit
pub service-read : (s t : Service) (n m : ℕ) → 2 * n + service_bit s ≡ 2 * m + service_bit t → (n ≡ m) × (s ≡ t)
service-read Call Call n m e = (omega (arith, e), refl)
service-read Call Packet n m e = absurd (omega (arith, e))
service-read Packet Call n m e = absurd (omega (arith, e))
service-read Packet Packet n m e = (omega (arith, e), refl)

-- unit data, of fewer than 65,536 octets
abbrev pub HasSmallUnit : UnitData → Type 0
HasSmallUnit u = length u.contents < 65536

pub unit-read : Reads HasSmallUnit (λ (u v : UnitData). u ≡ v) unit
unit-read u v r s few also e =
    let who : (u.tei ≡ v.tei) × (u.service ≡ v.service) = service-read u.service v.service u.tei v.tei (heads e) in
    let what : (u.contents ≡ v.contents) × (r ≡ s) = contents-read u.contents v.contents r s few also (tails e) in
    ((λ i. record { service = who.1 i; tei = who.0 i; contents = what.0 i }), what.1)

-- the numbers of a terminal's procedure
pub procedure-fits : (places : List (Option ℕ)) (o : Option Procedure) → IfSome o (terminals.IsSoundProcedure places) → IfSome o HasNumber
procedure-fits places None sound = tt
procedure-fits places (Some (Asking ri attempts)) sound = sound.0
procedure-fits places (Some (Verifying tei attempts)) sound = tt

-- what a terminal has of TEI management
pub record AreOwnNumbers (o : Own) : Type 0 where
  pub number : o.number < 65536
  pub procedure : IfSome o.procedure HasNumber

pub own-read : Reads AreOwnNumbers (λ (o p : Own). o ≡ p) own
own-read o p r s few also e =
    let read : AreSameBeside o.number p.number o.procedure p.procedure o.waiting p.waiting r s =
    beside-read o.number p.number o.procedure p.procedure o.waiting p.waiting r s few.number also.number few.procedure also.procedure e in
    ((λ i. record { number = read.number i; procedure = read.procedure i; waiting = read.waiting i }), read.others)

-- What a side has of TEI management.
pub record AreSameTeis (terminal : Bool) (l m : Line) (r s : List ℕ) : Type 0 where
  pub management : l.management ≡ m.management
  pub own : l.own ≡ m.own
  pub others : r ≡ s

pub teis-read : (terminal : Bool) (l m : Line) (r s : List ℕ) → IsOfSide terminal l.management l.own → IsOfSide terminal m.management m.own
    → l.management.reading ≡ m.management.reading → l.management.places ≡ m.management.places → length l.management.to_check ≡ length m.management.to_check
    → (terminal ≡ false → l.own.number ≡ 0) → (terminal ≡ false → m.own.number ≡ 0) → All HasRi l.management.remembered → All HasRi m.management.remembered → teis terminal l ++ r ≡ teis terminal m ++ s → AreSameTeis terminal l m r s
teis-read true l m r s side same_side reading places count unused unused_too few also e =
    let one : AreOwnNumbers l.own = record { number = side.0.number; procedure = procedure-fits l.management.places l.own.procedure side.0.runs } in
    let other : AreOwnNumbers m.own = record { number = same_side.0.number; procedure = procedure-fits m.management.places m.own.procedure same_side.0.runs } in
    let read : (l.own ≡ m.own) × (r ≡ s) = own-read l.own m.own r s one other e in
    let remembered : l.management.remembered ≡ m.management.remembered = side.1.remembered ∙ sym same_side.1.remembered in
    let check : l.management.check ≡ m.management.check = side.1.check ∙ sym same_side.1.check in
    let to_check : l.management.to_check ≡ m.management.to_check = side.1.to_check ∙ ap (λ (p : List (Option ℕ)). replicate (length p) false) places ∙ sym same_side.1.to_check in
    let waiting : l.management.waiting ≡ m.management.waiting = side.1.waiting ∙ sym same_side.1.waiting in
    record {
      management = λ i. record { reading = reading i; places = places i; remembered = remembered i; check = check i; to_check = to_check i; waiting = waiting i };
      own = read.0;
      others = read.1;
    }
teis-read false l m r s side same_side reading places count unused unused_too few also e =
    let read : (l.management ≡ m.management) × (r ≡ s) = management-read l.management m.management r s reading places count few also e in
    let number : l.own.number ≡ m.own.number = unused refl ∙ sym (unused_too refl) in
    let procedure : l.own.procedure ≡ m.own.procedure = side.0 ∙ sym same_side.0 in
    let waiting : l.own.waiting ≡ m.own.waiting = side.1 ∙ sym same_side.1 in
    record { management = read.0; own = λ i. record { number = number i; procedure = procedure i; waiting = waiting i }; others = read.1 }

-- The links, by their numbers: one is the same as itself.
pub same-link : (l m : Link) → l ≡ m → IsSameLink l m
same-link l m e = subst (λ (m : Link). IsSameLink l m) e (record {
  state = refl;
  va = refl;
  sent = refl;
  vr = refl;
  again = refl;
  queue = refl;
  peer_busy = refl;
  own_busy = refl;
  rejecting = refl;
  pending = refl;
  asked = refl;
  owed = refl;
  repeats = refl;
  running = refl;
  waiting = refl;
  counts = refl;
})

-- those before, and one more
one-more : (n : ℕ) (ns : List ℕ) (l m : Line) → IsSameLink (link_at n l) (link_at n m)
    → ((k : ℕ) → k < length ns → IsSameLink (link_at (get_or ns k 0) l) (link_at (get_or ns k 0) m))
    → (k : ℕ) → k < length (n ∷ ns) → IsSameLink (link_at (get_or (n ∷ ns) k 0) l) (link_at (get_or (n ∷ ns) k 0) m)
one-more n ns l m one rest zero h = one
one-more n ns l m one rest (suc k) h = rest k (omega (arith, h))

-- a link of a line that is saved
pub at-number : (c : Config) (l : Line) → length l.links ≡ link_count c → IsSavedLine c l → (n : ℕ) → n < link_count c → IsSavedLink (link_at n l)
at-number c l count saved n h = All-get_or IsSavedLink l.links n fresh (subst (λ (k : ℕ). n < k) (sym count) h) saved.links

module _ (c : Config) (short : c.n201 ≤ 260) where
  if-read : (number : ℕ) (o : Option ℕ) (l m : Link) (r s : List ℕ) → IsSoundAt c number l o → IsSoundAt c number m o → IsSavedLink l → IsSavedLink m
      → link_if o l ++ r ≡ link_if o m ++ s → IsSameLink l m × (r ≡ s)
  if-read number None l m r s sound also saved too e = (same-link l m (sound ∙ sym also), e)
  if-read number (Some tei) l m r s sound also saved too e =
      link-read l m r s (small l c.n201 short sound.sizes saved.counts) (small m c.n201 short also.sizes too.counts) e

  -- any of them, each of which is sound
  links-read : (l m : Line) → IsSound c l → IsSound c m → IsSavedLine c l → IsSavedLine c m → l.management ≡ m.management → (numbers : List ℕ) (r s : List ℕ)
      → ((k : ℕ) → k < length numbers → get_or numbers k 0 < link_count c) → flat_map (link_numbered l) numbers ++ r ≡ flat_map (link_numbered m) numbers ++ s
      → ((k : ℕ) → k < length numbers → IsSameLink (link_at (get_or numbers k 0) l) (link_at (get_or numbers k 0) m)) × (r ≡ s)
  links-read l m sound also saved too teis_same [] r s within e = ((λ k h. absurd (omega (arith, h))), e)
  links-read l m sound also saved too teis_same (n ∷ ns) r s within e =
      let here : n < link_count c = within 0 (omega arith) in
      let tei_same : tei_at (place_at n) l ≡ tei_at (place_at n) m = ap (λ (x : Management). get_or x.places (place_at n) None) teis_same in
      let whole : link_if (tei_at (place_at n) l) (link_at n l) ++ (flat_map (link_numbered l) ns ++ r) ≡ link_if (tei_at (place_at n) m) (link_at n m) ++ (flat_map (link_numbered m) ns ++ s) =
      split (link_numbered l n) (flat_map (link_numbered l) ns) (link_numbered m n) (flat_map (link_numbered m) ns) r s e in
      let one : IsSameLink (link_at n l) (link_at n m) × (flat_map (link_numbered l) ns ++ r ≡ flat_map (link_numbered m) ns ++ s) =
      if-read n (tei_at (place_at n) m) (link_at n l) (link_at n m) _ _
      (subst (λ (o : Option ℕ). IsSoundAt c n (link_at n l) o) tei_same (sound.links n here)) (also.links n here) (at-number c l sound.count saved n here) (at-number c m also.count too n here)
      (subst (λ (o : Option ℕ). link_if o (link_at n l) ++ (flat_map (link_numbered l) ns ++ r) ≡ link_if (tei_at (place_at n) m) (link_at n m) ++ (flat_map (link_numbered m) ns ++ s)) tei_same whole) in
      let rest = links-read l m sound also saved too teis_same ns r s (λ k h. within (suc k) (omega (arith, h))) one.1 in
      (one-more n ns l m one.0 rest.0, rest.1)

  -- unit data is not too long
  units-fit : (l : Line) → All (IsUnitData c) l.units → All HasSmallUnit l.units
  units-fit l all k d h = omega (arith, short, (all k d h).size)

  -- a whole line
  abbrev pub IsWhole : Line → Type 0
  IsWhole l = IsSound c l × IsSavedLine c l

  pub line-read : Reads IsWhole (IsSameLine c) (line c)
  line-read l m r s sound also e =
      let count : length (map place l.management.places) ≡ length (map place m.management.places) =
      length-map l.management.places place ∙ sound.0.places ∙ sym also.0.places ∙ sym (length-map m.management.places place) in
      let table : (map place l.management.places ≡ map place m.management.places) × _ =
      front-read (map place l.management.places) (map place m.management.places) _ _ count (split (map place l.management.places) _ (map place m.management.places) _ r s e) in
      let places : l.management.places ≡ m.management.places =
      places-read l.management.places m.management.places sound.0.management.table.range also.0.management.table.range table.0 in
      let dues : length l.management.to_check ≡ length m.management.to_check =
      sound.0.management.due.each ∙ sound.0.places ∙ sym also.0.places ∙ sym also.0.management.due.each in
      let teis_are = teis-read (is_terminal c) l m _ _ sound.0.own also.0.own (sound.0.reading ∙ sym also.0.reading) places dues sound.1.unused also.1.unused sound.1.remembered also.1.remembered
      (split (teis (is_terminal c) l) _ (teis (is_terminal c) m) _ r s table.1) in
      let units : (l.units ≡ m.units) × _ = list-read HasSmallUnit unit unit-read l.units m.units _ _ (units-fit l sound.0.units) (units-fit m also.0.units)
      (split (list_of unit l.units) _ (list_of unit m.units) _ r s teis_are.others) in
      let numbers : List ℕ = range_with_len 0 (link_count c) in
      let links = links-read l m sound.0 also.0 sound.1 also.1 teis_are.management numbers r s (below (link_count c)) (tails units.1) in (
        record {
          management = teis_are.management;
          own = teis_are.own;
          links = λ number h. subst (λ (n : ℕ). IsSameLink (link_at n l) (link_at n m)) (at (link_count c) number h) (links.0 number (within-range (link_count c) number h));
          units = units.0;
          turn = heads units.1;
        },
        links.1,
      )

-- The counters.
pub counters-read : Reads IsCounted (λ (c d : Counters). c ≡ d) counters
counters-read c d r s few also e =
    let values : (c.values ≡ d.values) × (r ≡ s) =
    equal-read (λ (n : ℕ). n < 256 ^ 8) (number 8) (number-read 8) c.values d.values r s (few.whole ∙ sym also.whole) (λ k x h. omega (arith, few.few k x h)) (λ k x h. omega (arith, also.few k x h)) e in
    ((λ i. record { values = values.0 i }), values.1)
