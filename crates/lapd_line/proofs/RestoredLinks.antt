-- Links are read.
use Rattle.lapd_line.proofs.Vocabulary.{◌≡◌, ◌≢◌, ℕ, ◌+◌, ◌<◌, List, ◌++◌, length, get_or, set, slice_get, Option, Some, None, refl, sym, ap, subst, ◌∙◌, arith, Owned, Store, SameLimits, used_slots, Link, terms_of, Terms, Config, LinksStand, HasTerms, machine_at, terms_in, LinkStands, Bool, none-some, same_Some, slice_get-set_same, slice_get-set_other, length-map, LinkLayer, Marks, Sets, TellsOf}
use Rattle.lapd_line.proofs.Vocabulary.{AreAwake, terms, service_at, link_count, Service, length-append, length-pairs_of, pairs_of}
use Rattle.std.proofs.Common.{Vec, Global}
use Rattle.lapd_link.specs.Stands.{slots_of}
use Rattle.lapd_store.proofs.Ownership.{used_slots-held}
use Rattle.std.proofs.lemmas.List.{set-get_or}
use Rattle.lapd_image.specs.Reads.{IsReadAs}
use Rattle.lapd_line.specs.ImageParts.{HasNoLinkAt, HasNoLinkIn, LinksAwake, RestoresIn, RestoresLink}
use Rattle.lapd_link.specs.Image as link
use Rattle.model_link.specs.Image.{link as image}
use Rattle.model_link.specs.Link as machine
use Rattle.lapd_line.proofs.AwakeSteps.{awake_begun, awake_set, begins_at}
use Rattle.lapd_line.proofs.LinkSteps.{opened_stands, opened_terms, part, terms_at, terms_stay}
use Rattle.lapd_line.proofs.Vocabulary.{length-set, ◌≤◌}

-- one that begins may begin again
as_it_is : (ms : List machine.Link) (number : ℕ) → machine_at ms number ≡ machine.fresh → set ms number machine.fresh ≡ ms
as_it_is ms number fresh = ap (set ms number) (sym fresh) ∙ set-get_or ms number machine.fresh

-- how many slots are in use
used_by : {x : Link} {s : Store} {others : List Owned} {m : machine.Link} → LinkStands x s others m → used_slots s ≡ length (machine.queue_of m) + length others
used_by {x} {s} {others} {m} st =
    used_slots-held (pairs_of (slots_of x) (machine.queue_of m) ++ others) st.kept.held ∙ length-append (pairs_of (slots_of x) (machine.queue_of m)) others
    ∙ ap (λ n. n + length others) (length-pairs_of (slots_of x) (machine.queue_of m) st.kept.lengths ∙ st.kept.lengths)

used_as : {x y : Link} {s t : Store} {others : List Owned} {m : machine.Link} → LinkStands x s others machine.fresh → LinkStands y t others m → used_slots t ≡ used_slots s + length (machine.queue_of m)
used_as first now = omega (arith, used_by first, used_by now)

-- The link at a place was read.
module _ (links : List Link) {number : ℕ} {x : Link} (within : number < length links) (at : x ≡ get_or links number x) where
  pub begun_part : {s : Store} → (c : Config) × (others : List Owned) × (ms : List machine.Link) × LinksStand c links s others ms × (machine_at ms number ≡ machine.fresh)
      → (others : List Owned) × LinkStands x s others machine.fresh
  begun_part {s} (c, others, ms, st, fresh) = let f = part within at c others ms st in (f.rest, subst (LinkStands x s f.rest) fresh f.stands)

  of_terms : (terms : Terms) → HasTerms links number terms → terms_of x ≡ terms
  of_terms terms = terms_at links number x terms within at

  pub restored_in : {front rest : List ℕ} {y : Link} {s t : Store}
      → (c : Config) × (others : List Owned) × (ms : List machine.Link) × LinksStand c links s others ms × (machine_at ms number ≡ machine.fresh)
      → terms_of y ≡ terms_of x → SameLimits s t → link.Restores front rest x s y t → RestoresIn number front rest links s (set links number y) t
  restored_in {front} {rest} {y} {s} {t} begun same limits (m, read, becomes) =
      let (others, first) = begun_part begun in
      λ terms has. (
        m,
        subst (λ u. IsReadAs image (link.IsSaved u) m front rest) (of_terms terms has) read,
        used_as first (becomes.stands others first),
        λ c others ms fresh st.
            let f = part within at c others ms st in
            f.back t y m limits same (becomes.stands f.rest (subst (LinkStands x s f.rest) fresh f.stands)),
      )

  pub none_in : {slots : ℕ} {front : List ℕ} (s : Store) → link.HasNoLink slots front x s → HasNoLinkIn number slots front links s
  none_in s none = λ terms l rest has saved. none l rest (subst (λ u. link.IsSaved u l) (sym (of_terms terms has)) saved)

  pub terms_kept : (y : Link) → terms_of y ≡ terms_of x → terms_in (set links number y) ≡ terms_in links
  terms_kept y same = terms_stay links number x y at same

-- There is no TEI at the place: the link stays as it begins.
pub no_tei : (e : LinkLayer) (s : Store) (number : ℕ) (o : Option ℕ) (front : List ℕ) → o ≡ None → RestoresLink number o front front e s e s
no_tei e s number o front none = subst (λ x. RestoresLink number x front front e s e s) (sym none) (
  machine.fresh,
  record { saved = refl; octets = refl },
  record {
    stand = λ others ms fresh la. subst (LinksAwake e s others) (sym (as_it_is ms number fresh)) la;
    here = λ tei some. absurd (none-some tei some);
    there = λ other apart. refl;
    used = omega arith;
  },
)

-- A link that was opened, of a list.
pub record IsOpened (number : ℕ) (terms : Terms) (old new : List Link) : Type 0 where
  pub has : HasTerms new number terms
  pub others : (other : ℕ) → other ≢ number → slice_get (terms_in new) other ≡ slice_get (terms_in old) other

pub opened : {old new : List Link} {number tei : ℕ} {service : Service} (c : Config) {s : Store}
    → (others : List Owned) × (ms : List machine.Link) × LinksStand c old s others ms × (length ms ≡ link_count c) × (machine_at ms number ≡ machine.fresh) → number < link_count c
    → service ≡ service_at number → terms_in new ≡ set (terms_in old) number (terms c service tei) → IsOpened number (terms c (service_at number) tei) old new
opened {old} {new} {number} {tei} c (others, ms, st, many, fresh) few same is =
    let anew = subst (λ x. terms_in new ≡ set (terms_in old) number (terms c x tei)) same is in
    record {
      has = ap (λ l. slice_get l number) anew ∙ slice_get-set_same (terms_in old) number (terms c (service_at number) tei) (omega (arith, few, many, st.same, length-map old terms_of));
      others = λ other apart. ap (λ l. slice_get l other) anew ∙ slice_get-set_other (terms_in old) number other (terms c (service_at number) tei) apart;
    }

-- So the links stand where one was opened, and it is as one that begins.
pub record OpensAt (e : LinkLayer) (s : Store) (number tei : ℕ) (links : List Link) : Type 0 where
  pub within : number < length links
  pub stands : (others : List Owned) (ms : List machine.Link) → LinksStand e.config e.links.items s others ms → LinksStand e.config links s others (set ms number machine.fresh)
  pub is : IsOpened number (terms e.config (service_at number) tei) e.links.items links
  pub begun : (c : Config) × (others : List Owned) × (ms : List machine.Link) × LinksStand c links s others ms × (machine_at ms number ≡ machine.fresh)

pub opens_at : {e : LinkLayer} {s : Store} {number : ℕ} (tei : ℕ) {service : Service} {x y : Link} {t : Terms}
    → (others : List Owned) × (ms : List machine.Link) × LinksStand e.config e.links.items s others ms × (length ms ≡ link_count e.config) × (machine_at ms number ≡ machine.fresh) → number < link_count e.config
    → x ≡ get_or e.links.items number x → service ≡ service_at number → t ≡ terms e.config service tei → terms_of y ≡ t
    → ((s : Store) (others : List Owned) (m : machine.Link) → t.n201 ≤ s.width → LinkStands x s others m → LinkStands y s others machine.fresh)
    → OpensAt e s number tei (set e.links.items number y)
opens_at {e} {s} {number} tei {service} {y = y} (others, ms, st, many, fresh) few at same is has begins =
    let within : number < length e.links.items = omega (arith, st.same, many, few) in
    let stands = opened_stands within at e.config service tei is has begins s in
    record {
      within = omega (arith, within, length-set e.links.items number y);
      stands = stands;
      is = opened e.config (others, ms, st, many, fresh) few same (opened_terms e.links.items number y (has ∙ is));
      begun = (e.config, others, set ms number machine.fresh, stands others ms st, begins_at ms number);
    }

-- There is one: no link that may be there is at the front.
pub none_at : {slots tei : ℕ} {o : Option ℕ} {front : List ℕ} (e : LinkLayer) (links : List Link) (s : Store) (number : ℕ) → o ≡ Some tei → HasTerms links number (terms e.config (service_at number) tei)
    → HasNoLinkIn number slots front links s → HasNoLinkAt slots number o front e s
none_at {slots} {tei} {o} {front} e links s number some has none =
    subst (λ x. HasNoLinkAt slots number x front e s) (sym some) (λ l rest saved. none (terms e.config (service_at number) tei) l rest has saved)

-- Or one is read.
pub one_at : {number tei : ℕ} {o : Option ℕ} {front rest : List ℕ} {looked : Bool} (e : LinkLayer) (links : List Link) (restored : Vec Link Global) (marks : Marks) (s t : Store) → o ≡ Some tei
    → IsOpened number (terms e.config (service_at number) tei) e.links.items links
    → ((others : List Owned) (ms : List machine.Link) → LinksStand e.config e.links.items s others ms → LinksStand e.config links s others (set ms number machine.fresh))
    → RestoresIn number front rest links s restored.items t → terms_in restored.items ≡ terms_in links → TellsOf number restored.items looked → Sets number looked e.has_frame marks
    → RestoresLink number o front rest e s (record e { links = restored; has_frame = marks }) t
one_at {number} {tei} {o} {front} {rest} {looked} e links restored marks s t some opened stands read same tells sets =
    let mine = terms e.config (service_at number) tei in
    let (l, is, used, becomes) = read mine opened.has in
    let has : HasTerms restored.items number mine = ap (λ x. slice_get x number) same ∙ opened.has in
    subst (λ x. RestoresLink number x front rest e s (record e { links = restored; has_frame = marks }) t) (sym some) (
      l,
      record { saved = is.saved; octets = is.octets },
      record {
        stand = λ others ms fresh la.
            let again = as_it_is ms number fresh in
            let begun = subst (LinksStand e.config links s others) again (stands others ms la.stand) in
            let stand = becomes e.config others ms fresh begun in
            let asleep = subst (AreAwake e.has_frame links) again (awake_begun e.has_frame e.links.items links ms number opened.others fresh la.awake) in
            record {
              stand = stand;
              awake = awake_set e.has_frame marks links restored.items ms number l looked mine sets same has (tells e.config mine t others (set ms number l) has stand) asleep;
            };
        here = λ other is_that. subst (λ x. HasTerms restored.items number (terms e.config (service_at number) x)) (same_Some tei other is_that) has;
        there = λ other apart. ap (λ x. slice_get x other) same ∙ opened.others other apart;
        used = used;
      },
    )
