-- Rounds, one after another.
use Rattle.std.proofs.Common.{◌≡◌, ℕ, ◌+◌, ◌<◌, ◌≤◌, Bool, false, ◌||◌, List, [], ◌∷◌, ◌++◌, length, map, Option, Some, None, option_map, inr, refl, sym, ap, subst, ◌∙◌, arith}
use Rattle.std.specs.Io.KnownBytes.{Appends}
use Rattle.std.proofs.KnownBytes.{Appends-nil, Appends-trans}
use Rattle.bus_types.specs.Window.{Span}
use Rattle.bus_types.specs.Timeline.{IsTimeline}
use Rattle.bus_link.specs.Links.{Told}
use Rattle.bootstrap_core.specs.Boot.{BootState, Stands}
use Rattle.bootstrap_core.specs.Opening.{Stores}
use Rattle.bootstrap_core.specs.Logging.{log_ask}
use Rattle.bootstrap_core.specs.Moving.{TellsWindows}
use Rattle.bus_node.specs.Exchange.{with_exchange, Exchanged, IsAnswered}
use Rattle.bootstrap_node.specs.declared.stop.Stop.{Stop}
use Rattle.bootstrap_node.specs.declared.stop.Stop.TheVariants.{BadAnswer, BadReply, LinkFault, StoreFault, WriteFault, NoMemory}
use Rattle.bootstrap_node.specs.Rounds.{Outside, Round, Later, Rounds, Made, MakesRound, BreaksRound, StopsRound, Stopped, AreTrue, after_dials, notes, is_filled}
use Rattle.bootstrap_node.specs.Asking.{TakesReply, TakesNot, LaterBoot}

-- ---- what a link tells

pub none_dialed : {P : Type 0} (relay : ℕ) (x : Option (Told P)) → x ≡ option_map (after_dials relay []) x
none_dialed relay None = refl
none_dialed relay (Some t) = refl

dialed : {P : Type 0} (relay : ℕ) (peer : P) (peers : List P) (x : Option (Told P)) → option_map (after_dials relay peers) (option_map (with_exchange relay peer) x) ≡ option_map (after_dials relay (peer ∷ peers)) x
dialed relay peer peers None = refl
dialed relay peer peers (Some t) = refl

after_last : {P : Type 0} (relay : ℕ) (peer : P) (peers : List P) (t : Told P) → after_dials relay (peers ++ peer ∷ []) t ≡ with_exchange relay peer (after_dials relay peers t)
after_last relay peer [] t = refl
after_last relay peer (p ∷ peers) t = after_last relay peer peers (with_exchange relay p t)

pub dialed_last : {P : Type 0} (relay : ℕ) (peer : P) (peers : List P) (x : Option (Told P)) → option_map (with_exchange relay peer) (option_map (after_dials relay peers) x) ≡ option_map (after_dials relay (peers ++ peer ∷ [])) x
dialed_last relay peer peers None = refl
dialed_last relay peer peers (Some t) = ap Some (sym (after_last relay peer peers t))

-- ---- counts

pub later_none : {P : Type 0} (o : Outside P) (b : BootState) → Later o o b b
later_none o b = record { link = omega arith; text = omega arith; log = omega arith; keeper = omega arith }

pub later_more : {P : Type 0} (o om o' : Outside P) (old mid new : BootState) → Later o om old mid → Later om o' mid new → Later o o' old new
later_more o om o' old mid new p q = record { link = omega (arith, p.link, q.link); text = omega (arith, p.text, q.text); log = omega (arith, p.log, q.log); keeper = omega (arith, p.keeper, q.keeper) }

pub later_both : {P : Type 0} (o o' : Outside P) (old new : BootState) → o.link_faults ≤ o'.link_faults → LaterBoot old new o.text_faults o'.text_faults → Later o o' old new
later_both o o' old new link boot = record { link = link; text = boot.text; log = boot.log; keeper = boot.keeper }

module _ {P : Type 0} (given left written : P → Option (List ℕ)) where
  -- ---- one round more

  pub made_none : (relay : ℕ) (gap full : Bool) (b : BootState) (o : Outside P) → Made given left written relay gap full b b o o []
  made_none relay gap full b o = record { are = refl; link = none_dialed relay o.link; text = Appends-nil o.text; later = later_none o b }

  made_more : (relay : ℕ) (gap full gap' full' : Bool) (old mid new : BootState) (o om o' : Outside P) (rs : List (Round P)) (r : MakesRound given left written relay gap full gap' full' old mid o om)
      → Made given left written relay gap' full' mid new om o' rs → Made given left written relay gap full old new o o' (r.round ∷ rs)
  made_more relay gap full gap' full' old mid new o om o' rs r m = record {
    are = (r.is, subst (λ b. Rounds given left written b rs new) r.boot m.are);
    link = m.link ∙ ap (option_map (after_dials relay (map (λ q. q.peer) rs))) r.link ∙ dialed relay r.round.peer (map (λ q. q.peer) rs) o.link;
    text = Appends-trans o.text om.text o'.text _ _ r.text
        (subst (λ g. Appends om.text o'.text (notes g (full || is_filled r.round.took) (map (λ q. q.took) rs))) r.gap_noted
        (subst (λ f. Appends om.text o'.text (notes gap' f (map (λ q. q.took) rs))) r.full_noted m.text));
    later = later_more o om o' old mid new r.later m.later;
  }

  -- ---- so many rounds so far: whatever rounds follow, all are those that were to be made

  abbrev pub Sofar : (relay : ℕ) (first now : BootState) (start o : Outside P) (gap full : Bool) (count : ℕ) → Type 0
  Sofar relay first now start o gap full count = (new : BootState) (o' : Outside P) (rs : List (Round P)) → Made given left written relay gap full now new o o' rs
      → (all : List (Round P)) × Made given left written relay false false first new start o' all × (length all ≡ count + length rs)

  pub sofar_none : (relay : ℕ) (b : BootState) (o : Outside P) → Sofar relay b b o o false false 0
  sofar_none relay b o new o' rs m = (rs, m, omega arith)

  pub sofar_more : (relay : ℕ) (first now mid : BootState) (start o om : Outside P) (gap full gap' full' : Bool) (count : ℕ) → Sofar relay first now start o gap full count
      → MakesRound given left written relay gap full gap' full' now mid o om → Sofar relay first mid start om gap' full' (count + 1)
  sofar_more relay first now mid start o om gap full gap' full' count sofar r new o' rs m =
      let all = sofar new o' (r.round ∷ rs) (made_more relay gap full gap' full' now mid new o om o' rs r m) in
      (all.0, all.1, all.2 ∙ omega arith)

  pub sofar_all : (relay : ℕ) (first now : BootState) (start o : Outside P) (gap full : Bool) (count : ℕ) → Sofar relay first now start o gap full count
      → (all : List (Round P)) × (length all ≡ count) × Made given left written relay false false first now start o all
  sofar_all relay first now start o gap full count sofar =
      let all = sofar now o [] (made_none relay gap full now o) in
      (all.0, all.2 ∙ omega arith, all.1)

  pub sofar_stopped : (stop : Stop) (relay total : ℕ) (first now new : BootState) (start o o' : Outside P) (gap full : Bool) (count : ℕ) → Sofar relay first now start o gap full count
      → count < total → BreaksRound given left written stop relay now new o o' → Stopped given left written (StopsRound given left written stop relay) relay total first new start o'
  sofar_stopped stop relay total first now new start o o' gap full count sofar fewer b =
      let all = sofar_all relay first now start o gap full count sofar in
      record {
        rounds = all.0;
        few = subst (λ n. n < total) (sym all.1) fewer;
        boot = now;
        outside = o;
        made = all.2;
        stops = b.stops;
        back = b.back;
        later = b.later;
      }

  -- ---- facts that rounds keep

  pub rounds_stand : (ws : List Span) (rs : List (Round P)) (old new : BootState) → IsTimeline ws → Rounds given left written old rs new → Stands ws old → TellsWindows old.log
      → AreTrue given left written ws old rs → Stands ws new
  rounds_stand ws [] old new line are stands tells each = subst (λ b. Stands ws b) (sym are) stands
  rounds_stand ws (r ∷ rs) old new line are stands tells each =
      rounds_stand ws rs r.boot new line are.1 (are.0.taken.stands ws line stands tells each.0) (are.0.taken.tells tells) each.1

  pub rounds_stored : (rs : List (Round P)) (old new : BootState) → Rounds given left written old rs new → Stores old.keeper old.mark → Stores new.keeper new.mark
  rounds_stored [] old new are stored = subst (λ (b : BootState). Stores b.keeper b.mark) (sym are) stored
  rounds_stored (r ∷ rs) old new are stored = rounds_stored rs r.boot new are.1 (are.0.taken.stored stored)

  -- ---- the parts of a round

  pub round_made : (relay : ℕ) (gap full gap' full' : Bool) (body seen : List ℕ) (old new : BootState) (o o' : Outside P)
      → Exchanged P (IsAnswered given left written (log_ask old.log.high) body) relay o.link o'.link → length body ≤ 16777216 → seen ≡ body
      → TakesReply gap full gap' full' seen old new o.text o'.text → Later o o' old new
      → MakesRound given left written relay gap full gap' full' old new o o'
  round_made relay gap full gap' full' body seen old new o o' exchanged small read took later =
      let t : TakesReply gap full gap' full' body old new o.text o'.text = subst (λ b. TakesReply gap full gap' full' b old new o.text o'.text) read took in
      record {
        round = record { peer = exchanged.0; body = body; took = t.took; logged = t.logged; boot = new };
        is = record { asked = exchanged.2; small = small; taken = t.is };
        boot = refl;
        link = exchanged.1;
        text = t.printed;
        gap_noted = t.gap_noted;
        full_noted = t.full_noted;
        later = later;
      }

  -- an answer came, and wasn't taken
  breaks : (stop : Stop) (relay : ℕ) (body : List ℕ) (old new : BootState) (o o' : Outside P) → Exchanged P (IsAnswered given left written (log_ask old.log.high) body) relay o.link o'.link
      → TakesNot stop body old new o.text o'.text o.text_faults o'.text_faults → Later o o' old new → BreaksRound given left written stop relay old new o o'
  breaks BadAnswer relay body old new o o' exchanged h later = absurd h
  breaks (BadReply place) relay body old new o o' exchanged h later = record {
    stops = record { peer = exchanged.0; body = body; asked = exchanged.2; link = exchanged.1; takes = h.0; text = h.1 };
    back = inr (exchanged.0, exchanged.1);
    later = later;
  }
  breaks LinkFault relay body old new o o' exchanged h later = absurd h
  breaks StoreFault relay body old new o o' exchanged h later = record { stops = h; back = inr (exchanged.0, exchanged.1); later = later }
  breaks WriteFault relay body old new o o' exchanged h later = record { stops = h; back = inr (exchanged.0, exchanged.1); later = later }
  breaks NoMemory relay body old new o o' exchanged h later = record { stops = tt; back = inr (exchanged.0, exchanged.1); later = later }

  pub taken_breaks : (stop : Stop) (relay : ℕ) (body seen : List ℕ) (old new : BootState) (o o' : Outside P) → Exchanged P (IsAnswered given left written (log_ask old.log.high) body) relay o.link o'.link → seen ≡ body
      → TakesNot stop seen old new o.text o'.text o.text_faults o'.text_faults → Later o o' old new → BreaksRound given left written stop relay old new o o'
  taken_breaks stop relay body seen old new o o' exchanged read h later =
      breaks stop relay body old new o o' exchanged (subst (λ b. TakesNot stop b old new o.text o'.text o.text_faults o'.text_faults) read h) later
