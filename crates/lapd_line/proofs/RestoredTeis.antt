-- TEI management is read, of either kind.
use Rattle.lapd_line.proofs.Vocabulary.{◌≡◌, ◌++◌, List, ℕ, false, length, replicate, None, sym, ap, refl, subst, ◌∙◌, Config, Line, Own, Management, Managing, Places, IsSound, IsOfSide, fresh_line, is_terminal, management_of, own_of, places_of, is_terminals, terminal_in, length-map, All, All-nil}
use Rattle.std.specs.Prelude.{IfSome, map}
use Rattle.std.proofs.lemmas.List.{length-replicate}
use Rattle.lapd_image.specs.Reads.{HasNone}
use Rattle.lapd_line.specs.ImageParts.{teis_image, AreSavedTeis}
use Rattle.lapd_line.specs.declared.managing.Managing.TheVariants as kind
use Rattle.model_teis.specs.TableImage.{place}
use Rattle.model_teis.specs.network.Image as network
use Rattle.model_teis.specs.Table.{IsSoundTable}
use Rattle.model_teis.specs.network.Sound as tei
use Rattle.model_teis.proofs.OfNetwork.SoundWords.{memory-empty, queue-empty}
use Rattle.model_teis.specs.terminal.Image as terminal
use Rattle.model_teis.specs.terminal.Machine.{Terminal}
use Rattle.model_line.specs.Image as image
use Rattle.model_line.specs.Image.{IsWhole}
use Rattle.lapd_image.proofs.Reading.{front-read, split}
use Rattle.model_teis.proofs.OfNetwork.ImageRead.{places-read, management-read}
use Rattle.model_line.proofs.ImageRead.{procedure-fits, own-read}
use Rattle.model_line.specs.Sound.{IsUnused}
use Rattle.model_line.proofs.Checks.{unused-due, unused-read}

-- one kind is not the other
pub of_network : {front : List ℕ} (like : Management) → HasNone network.image (network.IsSavedOf like) front → HasNone teis_image (AreSavedTeis (kind.Network like)) front
of_network like none (kind.Network m) rest saved is = none m rest saved is
of_network like none (kind.Terminal t) rest saved is = saved

pub of_terminal : {front : List ℕ} (like : Terminal) → HasNone terminal.image (terminal.IsSavedOf like) front → HasNone teis_image (AreSavedTeis (kind.Terminal like)) front
of_terminal like none (kind.Network m) rest saved is = saved
of_terminal like none (kind.Terminal t) rest saved is = none t rest saved is

pub same_kind : (like x : Managing) → AreSavedTeis like x → is_terminals x ≡ is_terminals like
same_kind (kind.Network like) (kind.Network x) saved = refl
same_kind (kind.Network like) (kind.Terminal x) saved = absurd saved
same_kind (kind.Terminal like) (kind.Network x) saved = absurd saved
same_kind (kind.Terminal like) (kind.Terminal x) saved = refl

-- What a line of the machine has of it, as one of this kind holds it.
abbrev pub held_in : Managing → Line → Managing
held_in (kind.Network like) m = kind.Network m.management
held_in (kind.Terminal like) m = kind.Terminal (terminal_in m)

pub places_in : (like : Managing) (m : Line) → places_of (held_in like m) ≡ m.management.places
places_in (kind.Network like) m = refl
places_in (kind.Terminal like) m = refl

pub image_in : (c : Config) (like : Managing) (m : Line) → is_terminals like ≡ is_terminal c → teis_image (held_in like m) ≡ map place m.management.places ++ image.teis (is_terminal c) m
image_in c (kind.Network like) m same = ap (λ b. map place m.management.places ++ image.teis b m) same
image_in c (kind.Terminal like) m same = ap (λ b. map place m.management.places ++ image.teis b m) same

-- where the line may be saved, so may that
pub saved_in : (c : Config) (like : Managing) (m : Line) → is_terminals like ≡ is_terminal c → (fresh_line c).management ≡ management_of c like → IsWhole c m → AreSavedTeis like (held_in like m)
saved_in c (kind.Network like) m same begun whole = record {
  saved = record { sound = whole.sound.management; remembered = whole.saved.remembered; messages = whole.saved.messages };
  reading = whole.sound.reading ∙ ap (λ (t : Management). t.reading) begun;
  places = whole.sound.places ∙ sym (length-replicate c.terminals None) ∙ ap (λ (t : Management). length t.places) begun;
}
saved_in c (kind.Terminal like) m same begun whole = record {
  saved = record { sound = (subst (λ b. IsOfSide b m.management m.own) (sym same) whole.sound.own).0; messages = whole.saved.own };
  reading = whole.sound.reading ∙ ap (λ (t : Management). t.reading) begun;
  places = whole.sound.places ∙ sym (length-replicate c.terminals None) ∙ ap (λ (t : Management). length t.places) begun;
}

-- The same octets are of the same one.
places_read : (xs ys : Places) (r s : List ℕ) → length xs ≡ length ys → IsSoundTable xs → IsSoundTable ys → map place xs ++ r ≡ map place ys ++ s → (xs ≡ ys) × (r ≡ s)
places_read xs ys r s many sound also e =
    let table = front-read (map place xs) (map place ys) r s (length-map xs place ∙ many ∙ sym (length-map ys place)) e in
    (places-read xs ys sound.range also.range table.0, table.1)

abbrev own_in : Terminal → Own
own_in t = record { number = t.number; procedure = t.procedure; waiting = t.waiting }

pub teis_read : (like x y : Managing) (r s : List ℕ) → AreSavedTeis like x → AreSavedTeis like y → teis_image x ++ r ≡ teis_image y ++ s → (x ≡ y) × (r ≡ s)
teis_read (kind.Network like) (kind.Network x) (kind.Network y) r s saved also e =
    let table = places_read x.places y.places (network.management x ++ r) (network.management y ++ s) (saved.places ∙ sym also.places) saved.saved.sound.table also.saved.sound.table
    (split (map place x.places) (network.management x) (map place y.places) (network.management y) r s e) in
    let dues = saved.saved.sound.due.each ∙ saved.places ∙ sym also.places ∙ sym also.saved.sound.due.each in
    let read = management-read x y r s (saved.reading ∙ sym also.reading) table.0 dues saved.saved.remembered also.saved.remembered table.1 in
    (ap (λ m. kind.Network m) read.0, read.1)
teis_read (kind.Network like) (kind.Network x) (kind.Terminal y) r s saved also e = absurd also
teis_read (kind.Network like) (kind.Terminal x) y r s saved also e = absurd saved
teis_read (kind.Terminal like) (kind.Network x) y r s saved also e = absurd saved
teis_read (kind.Terminal like) (kind.Terminal x) (kind.Network y) r s saved also e = absurd also
teis_read (kind.Terminal like) (kind.Terminal x) (kind.Terminal y) r s saved also e =
    let table = places_read x.places y.places (terminal.beside_table x.number x.procedure x.waiting ++ r) (terminal.beside_table y.number y.procedure y.waiting ++ s) (saved.places ∙ sym also.places) saved.saved.sound.table also.saved.sound.table
    (split (map place x.places) (terminal.beside_table x.number x.procedure x.waiting) (map place y.places) (terminal.beside_table y.number y.procedure y.waiting) r s e) in
    let read = own-read (own_in x) (own_in y) r s
    (record { number = saved.saved.sound.number; procedure = procedure-fits x.places x.procedure saved.saved.sound.runs })
    (record { number = also.saved.sound.number; procedure = procedure-fits y.places y.procedure also.saved.sound.runs }) table.1 in
    let reading = saved.reading ∙ sym also.reading in
    ((λ i. kind.Terminal (record { reading = reading i; places = table.0 i; number = (read.0 i).number; procedure = (read.0 i).procedure; waiting = (read.0 i).waiting })), read.1)

-- The numbers of what may be saved have their sizes.
pub record AreSized (c : Config) (x : Managing) : Type 0 where
  pub remembered : All network.HasRi (management_of c x).remembered
  pub messages : All network.IsOfOctets (management_of c x).waiting
  pub own : All terminal.IsOfOctets (own_of x).waiting
  pub unused : is_terminals x ≡ false → (own_of x).number ≡ 0

pub are_sized : (c : Config) (like x : Managing) → AreSavedTeis like x → AreSized c x
are_sized c (kind.Network like) (kind.Network x) saved = record {
  remembered = saved.saved.remembered;
  messages = saved.saved.messages;
  own = All-nil terminal.IsOfOctets;
  unused = λ e. refl;
}
are_sized c (kind.Network like) (kind.Terminal x) saved = absurd saved
are_sized c (kind.Terminal like) (kind.Network x) saved = absurd saved
are_sized c (kind.Terminal like) (kind.Terminal x) saved = record {
  remembered = All-nil network.HasRi;
  messages = All-nil network.IsOfOctets;
  own = saved.saved.messages;
  unused = λ e. absurd (cc);
}

-- And what was read is sound, as a line has it.
pub record IsSoundTeis (c : Config) (x : Managing) : Type 0 where
  pub management : tei.IsSound (management_of c x)
  pub reading : (management_of c x).reading ≡ c.reading
  pub own : IsOfSide (is_terminals x) (management_of c x) (own_of x)
  pub places : length (places_of x) ≡ c.terminals
  pub sized : AreSized c x

sound_unused : (m : Management) → IsSoundTable m.places → IsUnused m → tei.IsSound m
sound_unused m table unused = record {
  table = table;
  memory = subst (tei.IsSoundMemory m.places) (sym unused.remembered) (memory-empty m.places);
  checked = subst (λ o. IfSome o (tei.IsSoundCheck m.reading m.places)) (sym unused.check) tt;
  due = unused-due m unused;
  queue = subst tei.IsSoundQueue (sym unused.waiting) queue-empty;
  read = unused-read m.reading m unused;
}

pub sound_teis : (c : Config) (like x : Managing) → (fresh_line c).management ≡ management_of c like → AreSavedTeis like x → IsSoundTeis c x
sound_teis c (kind.Network like) (kind.Network x) begun saved = record {
  management = saved.saved.sound;
  reading = saved.reading ∙ sym (ap (λ (t : Management). t.reading) begun);
  own = (refl, refl);
  places = saved.places ∙ sym (ap (λ (t : Management). length t.places) begun) ∙ length-replicate c.terminals None;
  sized = are_sized c (kind.Network like) (kind.Network x) saved;
}
sound_teis c (kind.Network like) (kind.Terminal x) begun saved = absurd saved
sound_teis c (kind.Terminal like) (kind.Network x) begun saved = absurd saved
sound_teis c (kind.Terminal like) (kind.Terminal x) begun saved =
    let many : length x.places ≡ c.terminals = saved.places ∙ sym (ap (λ (t : Management). length t.places) begun) ∙ length-replicate c.terminals None in
    let unused : IsUnused (management_of c (kind.Terminal x)) = record { remembered = refl; check = refl; to_check = ap (λ n. replicate n false) (sym many); waiting = refl } in
    record {
      management = sound_unused (management_of c (kind.Terminal x)) saved.saved.sound.table unused;
      reading = saved.reading ∙ sym (ap (λ (t : Management). t.reading) begun);
      own = (saved.saved.sound, unused);
      places = many;
      sized = are_sized c (kind.Terminal like) (kind.Terminal x) saved;
    }
