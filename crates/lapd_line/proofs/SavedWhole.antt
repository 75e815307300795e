-- What is saved of a line may be saved.
use Rattle.lapd_line.proofs.Vocabulary.{◌≡◌, ℕ, ◌+◌, ◌<◌, List, Option, Some, None, true, sym, subst, ◌∙◌, arith, false≢true, is_some, ⊎_elim, cases_eq, Owned, Store, Config, Line, LinkLayer, LayerStands, link_at, link_count, tei_at, place_at, terms, service_at, All, IsSoundAt}
use Rattle.std.proofs.lemmas.List.Elements.{All-from_get_or}
use Rattle.lapd_line.specs.ImageParts.{AreSavedTeis}
use Rattle.lapd_link.specs.Image.{IsSaved}
use Rattle.model_bits.specs.StuffingLaws.{AreOctets}
use Rattle.model_link.specs.Image.{IsSavedLink}
use Rattle.model_line.specs.Image.{IsWhole}
use Rattle.model_teis.specs.network.Messages.{information_of}
use Rattle.model_teis.specs.terminal.Messages as terminals
use Rattle.model_teis.specs.network.Image.{HasRi}
use Rattle.model_link.specs.Link as machine
use Rattle.model_link.specs.Timed.{IsTimed}
use Rattle.lapd_line.proofs.RestoredTeis.{are_sized}
use Rattle.lapd_line.proofs.RestoredWhole.{saved_at}

-- a link of a TEI
pub link_saved : {told o : Option ℕ} (c : Config) (number : ℕ) (l : machine.Link) → told ≡ o → is_some told ≡ true → ((tei : ℕ) → o ≡ Some tei → IsSaved (terms c (service_at number) tei) l) → IsSavedLink l
link_saved {told} {o} c number l is some saved = go told some is
  where
    go : (x : Option ℕ) → is_some x ≡ true → x ≡ o → IsSavedLink l
    go None none same = absurd (false≢true none)
    go (Some tei) there same = saved_at c number (Some tei) l (saved tei (sym same))

-- and where there is none, it is as one that begins
pub free_saved : {e : LinkLayer} {s : Store} {others : List Owned} (m : Line) (number : ℕ) → LayerStands e s others m → number < link_count e.config → tei_at (place_at number) m ≡ None → IsSavedLink (link_at number m)
free_saved {e} m number st few none = saved_at e.config number None (link_at number m) (subst (IsSoundAt e.config number (link_at number m)) none (st.sound.links number few))

-- those before this one may be saved, and all
pub next_saved : (c : Config) (m : Line) (number : ℕ) → ((other : ℕ) → other < number → IsSavedLink (link_at other m)) → IsSavedLink (link_at number m)
    → (other : ℕ) → other < number + 1 → IsSavedLink (link_at other m)
next_saved c m number before here = λ other h.
    ⊎_elim (λ same. subst (λ k. IsSavedLink (link_at k m)) (sym same) here) (λ apart. before other (omega (arith, h, apart))) (cases_eq other number)

pub all_saved : {e : LinkLayer} {s : Store} {others : List Owned} (m : Line) (number : ℕ) → LayerStands e s others m → number ≡ link_count e.config
    → ((other : ℕ) → other < number → IsSavedLink (link_at other m)) → All IsSavedLink m.links
all_saved {e} m number st all before = All-from_get_or IsSavedLink m.links machine.fresh (λ other h. before other (omega (arith, h, all, st.sound.count)))

-- the line
pub line_saved : {e : LinkLayer} {s : Store} {others : List Owned} (m : Line) → LayerStands e s others m → AreSavedTeis e.teis e.teis → All (λ u. AreOctets u.contents) m.units → All IsSavedLink m.links
    → ((number : ℕ) → IsTimed (link_at number m)) → IsWhole e.config m
line_saved {e} m st teis units links timed =
    let sized = are_sized e.config e.teis e.teis teis in
    record {
      sound = st.sound;
      timed = timed;
      saved = record {
        remembered = subst (λ t. All HasRi t.remembered) (sym st.management) sized.remembered;
        messages = subst (λ t. All (λ message. AreOctets (information_of message)) t.waiting) (sym st.management) sized.messages;
        own = subst (λ o. All (λ message. AreOctets (terminals.information_of message)) o.waiting) (sym st.own) sized.own;
        unused = λ side. subst (λ o. o.number ≡ 0) (sym st.own) (sized.unused (st.kind ∙ side));
        links = links;
        units = units;
      };
    }
