-- What a call on the entities of a line does to the line.
use Rattle.lapd_line.proofs.Vocabulary.{◌≡◌, fold-append, List, [], ◌++◌, Option, Some, None, refl, sym, ap, ◌∙◌, subst, false≢true, Cause, Timer, Owned, Store, SameLimits, Config, Event, told, dropped, hears, expiry, aim_of_expiry, after, answer, IsSome, Counters, More, with_all, heard_shown, shown, answer_shown, told_shown, FrameLine, LinkLayer, BareReport, Serves, aim_of_event, told_beside}
use Rattle.lapd_line.proofs.Vocabulary.{told_in, Leads, LeadsIfHeard, answer_if_heard, config_of, with_counted, bare_shown, with_more, LayerStands, LineStands}
use Rattle.model_bits.specs.Stream as stream
use Rattle.model_line.specs.Line as machine
use Rattle.lapd_line.specs.Reports.{octets_of}
use Rattle.lapd_line.proofs.Silent.{expiry_silent, silent_told}

-- what was counted is no matter for what a line stands for
pub recounted : (l : FrameLine) (k : Counters) (s : Store) (others : List Owned) (m : machine.Line) → LineStands l s others m → LineStands (record l { counters = k }) s others m
recounted l k s others m st = record { layer = st.layer }

-- The entities have gone on with an event of which this is shown, and it was counted.
abbrev pub gone_on : FrameLine → LinkLayer → List More → FrameLine
gone_on old e all = record { layer = e; counters = with_all old.counters all }

pub counted_twice : (k : Counters) (a b : List More) → with_all (with_all k a) b ≡ with_all k (a ++ b)
counted_twice k a b = sym (fold-append with_more k a b)

-- So it leads the line on.
pub leads_on : {event : Event} {old new : FrameLine} {s t : Store} {e : LinkLayer} (all : List More) → e.config ≡ config_of old → SameLimits s t
    → ((others : List Owned) (m : machine.Line) → LineStands old s others m → LayerStands e t others (after (config_of old) event m))
    → ((others : List Owned) (m : machine.Line) → LineStands old s others m → shown (config_of old) event (answer (config_of old) event m) ≡ all)
    → new ≡ gone_on old e all → Leads event old s new t
leads_on {event} {old} {t = t} all config limits goes are is = record {
  config = ap config_of is ∙ config;
  limits = limits;
  stands = λ others m st.
      subst (λ l. LineStands l t others (after (config_of old) event m)) (sym is) (record { layer = goes others m st });
  counted = λ others m st. ap (λ l. l.counters) is ∙ ap (with_all old.counters) (sym (are others m st));
}

-- what is heard is served
pub heard_told : (old : FrameLine) {s : Store} {e : LinkLayer} {t : Store} {o : BareReport} (h : Option stream.Event) → Serves (aim_of_event (config_of old) h) (octets_of h) old.layer s e t o
    → (others : List Owned) (m : machine.Line) → LineStands old s others m → told (told_in (octets_of h) o) ≡ answer_if_heard (config_of old) h m
unfolding answer
heard_told old None served others m st = ap told (served.told others m st.layer)
heard_told old (Some x) served others m st = ap told (served.told others m st.layer)

pub heard_leads : (old : FrameLine) {new : FrameLine} {s : Store} {e : LinkLayer} {t : Store} {o : BareReport} (h : Option stream.Event) → IsSome h → Serves (aim_of_event (config_of old) h) (octets_of h) old.layer s e t o
    → new ≡ gone_on old e (heard_shown (config_of old).side h ++ bare_shown o) → LeadsIfHeard h old s new t
unfolding after
heard_leads old None some served is = absurd (false≢true some)
heard_leads old {o = o} (Some x) some served is =
    leads_on {event = hears x} (heard_shown (config_of old).side (Some x) ++ bare_shown o) served.config served.limits (λ others m st. served.stands others m st.layer)
    (λ others m st. ap (λ a. heard_shown (config_of old).side (Some x) ++ answer_shown (config_of old).side a) (sym (heard_told old (Some x) served others m st))) is

-- what is dropped leaves all as it is
pub dropped_told : (c : Config) (cause : Cause) (m : machine.Line) (o : BareReport) → told_in [] o ≡ dropped cause → told (told_beside None o) ≡ answer c (hears (stream.dropped cause)) m
unfolding answer
dropped_told c cause m o is = ap told (silent_told o is refl)

pub dropped_heard : (c : Config) (cause : Cause) (m : machine.Line) (o : BareReport) → told_in [] o ≡ dropped cause → told (told_in [] o) ≡ answer c (hears (stream.dropped cause)) m
unfolding answer
dropped_heard c cause m o is = ap told is

pub dropped_leads : {old new : FrameLine} (s : Store) (cause : Cause) → new ≡ with_counted old (told_shown [] (Some cause) 0) → Leads (hears (stream.dropped cause)) old s new s
unfolding after answer
dropped_leads {old} s cause is = record {
  config = ap config_of is;
  limits = record { slots = refl; width = refl };
  stands = λ others m st. subst (λ l. LineStands l s others m) (sym is) (recounted old (with_all old.counters (told_shown [] (Some cause) 0)) s others m st);
  counted = λ others m st. ap (λ l. l.counters) is;
}

-- a timer has expired
pub expiry_told : {e new : LinkLayer} {s t : Store} {o : BareReport} (timer : Timer) → Serves (aim_of_expiry timer) [] e s new t o
    → (others : List Owned) (m : machine.Line) → LayerStands e s others m → told (told_beside None o) ≡ answer e.config (expiry timer) m
unfolding answer
expiry_told {e} {o = o} timer served others m st = ap told (silent_told o (served.told others m st) (expiry_silent e.config m timer))

pub expired : {old new : FrameLine} {s : Store} {e : LinkLayer} {t : Store} {o : BareReport} (timer : Timer) → Serves (aim_of_expiry timer) [] old.layer s e t o
    → new ≡ gone_on old e (bare_shown o) → Leads (expiry timer) old s new t
unfolding after answer
expired {o = o} timer served is =
    leads_on {event = expiry timer} (bare_shown o) served.config served.limits (λ others m st. served.stands others m st.layer)
    (λ others m st. ap (λ x. told_shown x.notes x.cause x.lost) (sym (served.told others m st.layer))) is
