-- Items that may come next, one more each time; and where the code stops reading them.
use Rattle.std.proofs.Common.{◌≡◌, ℕ, ◌+◌, ◌-◌, ◌<◌, ◌≤◌, inl, inr, Bool, true, false, cond, ltb, leb, eqb, ◌&&◌, ◌||◌, IsTrue, List, [], ◌∷◌, ◌++◌, length, Option, Some, None, refl, sym, ap, subst, ◌∙◌, append_assoc, append-nil, arith}
use Rattle.std.specs.Prelude.{is_some}
use Rattle.std.proofs.lemmas.Bool.{and_parts, leb-true, ltb-true}
use Rattle.std.proofs.lemmas.List.{length-append}
use Rattle.bus_types.specs.declared.change.Change.{Change}
use Rattle.bus_types.specs.declared.limits.TheConstants.{MAX_SCN}
use Rattle.bus_types.specs.Change.{name_of}
use Rattle.bus_types.specs.Rows.{is_after}
use Rattle.bus_types.specs.declared.row.Cursor.{Cursor}
use Rattle.partition_filter.specs.Selection.{Selection, test_of}
use Rattle.event_codec.specs.Bytes.{Event, IsEvent, event_bytes, changes_bytes}
use Rattle.event_codec.specs.Frames.{Run, run_kind, Closing, closing_bytes}
use Rattle.event_codec.specs.Frames.Run.{Rows, Changes}
use Rattle.event_codec.specs.Forms.{run_bytes}
use Rattle.event_codec.specs.Parsing.{event_in_front, closing_in_front}
use Rattle.event_codec.specs.ReplyViews.{IsRunOf}
use Rattle.event_codec.proofs.Begun.{event, change_positive, changes_bytes-push, are_changes_push}
use Rattle.event_codec.proofs.EventBytes.{event_length}
use Rattle.bus_wire.specs.Wanted.{Wanted, changes_wanted, run_wanted, most_items, is_scn_wanted, is_wanted, wanted_behind, wanted_after, AreWanted, can_end, AreAsked, HoldsItems, ItemsRead, goes_on, ends, StandsBehindFrame, ItemsStop}

-- ---- one SCN

one_scn : (n m : ℕ) → IsTrue (leb n m && leb m n) → m ≡ n
one_scn n m within = let p = and_parts (leb n m) (leb m n) within in omega (arith, leb-true n m p.0, leb-true m n p.1)

-- behind an item only its SCN is wanted
pub after_scn : (w : Wanted) (n : ℕ) (cs : List Change) (m : ℕ) → 0 < length cs → IsTrue (is_scn_wanted (wanted_after w n cs) m) → m ≡ n
after_scn w n [] m some within = absurd (omega arith)
after_scn w n (c ∷ []) m some within = one_scn n m within
after_scn w n (c ∷ d ∷ ds) m some within = after_scn (wanted_behind w n c) n (d ∷ ds) m (omega arith) within

pub after_deletes : (w : Wanted) (n : ℕ) (cs : List Change) → (wanted_after w n cs).deletes ≡ w.deletes
after_deletes w n [] = refl
after_deletes w n (c ∷ cs) = after_deletes (wanted_behind w n c) n cs

after_push : (w : Wanted) (n : ℕ) (cs : List Change) (c : Change) → wanted_after w n (cs ++ c ∷ []) ≡ wanted_behind (wanted_after w n cs) n c
after_push w n [] c = refl
after_push w n (d ∷ ds) c = after_push (wanted_behind w n d) n ds c

are_push : (w : Wanted) (n : ℕ) (cs : List Change) (c : Change) → AreWanted w n cs → IsTrue (is_wanted (wanted_after w n cs) n c) → AreWanted w n (cs ++ c ∷ [])
are_push w n [] c are is = (is, tt)
are_push w n (d ∷ ds) c are is = (are.0, are_push (wanted_behind w n d) n ds c are.1 is)

-- items were read, at an SCN that is free where there is none
record Come (w : Wanted) (bytes : List ℕ) (n : ℕ) (cs : List Change) (part : List ℕ) : Type 0 where
  parts : bytes ≡ changes_bytes n cs ++ part
  formed : IsRunOf n cs
  wanted : AreWanted w n cs

come_at : (w : Wanted) (bytes : List ℕ) (n m : ℕ) (cs : List Change) (part : List ℕ) → (0 < length cs → m ≡ n) → m ≤ MAX_SCN → Come w bytes n cs part → Come w bytes m cs part
come_at w bytes n m [] part same bound come = record { parts = come.parts; formed = record { within = tt; positive = λ h. absurd (omega (arith, h)); bound = bound }; wanted = tt }
come_at w bytes n m (c ∷ cs) part same bound come = subst (λ k. Come w bytes k (c ∷ cs) part) (sym (same (omega arith))) come

after_at : (w : Wanted) (n m : ℕ) (cs : List Change) → (0 < length cs → m ≡ n) → wanted_after w n cs ≡ wanted_after w m cs
after_at w n m [] same = refl
after_at w n m (c ∷ cs) same = ap (λ k. wanted_after w k (c ∷ cs)) (sym (same (omega arith)))

come : (w : Wanted) (bytes : List ℕ) (read : ItemsRead w bytes) → Come w bytes read.scn read.changes read.part
come w bytes read = record { parts = read.parts; formed = read.formed; wanted = read.wanted }

-- ---- nothing is read

abbrev pub read_none : (w : Wanted) (bytes : List ℕ) → ItemsRead w bytes
read_none w bytes = record {
  scn = 0;
  changes = [];
  part = bytes;
  parts = refl;
  formed = record { within = tt; positive = λ h. absurd (omega (arith, h)); bound = omega arith };
  wanted = tt;
  few = omega arith;
}

-- ---- one more item

scn_of : (v : Wanted) (n : ℕ) (c : Change) → IsTrue (is_wanted v n c) → IsTrue (is_scn_wanted v n)
scn_of v n c is =
    let all = and_parts (is_scn_wanted v n && (v.deletes || is_some c.put) && test_of v.filter c.source c.key) (is_after v.cursor (name_of c)) is in
    let three = and_parts (is_scn_wanted v n && (v.deletes || is_some c.put)) (test_of v.filter c.source c.key) all.0 in
    (and_parts (is_scn_wanted v n) (v.deletes || is_some c.put) three.0).0

pub record Reads (w : Wanted) (bytes : List ℕ) (v : Wanted) (count : ℕ) (part : List ℕ) : Type 0 where
  pub read : ItemsRead w bytes
  pub wanted : v ≡ wanted_after w read.scn read.changes
  pub counted : count ≡ length read.changes
  pub left : part ≡ read.part

regroup : (a b c : List ℕ) → a ++ (b ++ c) ≡ (a ++ b) ++ c
regroup a b c = simp append_assoc

pub reads_more : (w : Wanted) (bytes : List ℕ) (v : Wanted) (count : ℕ) (part : List ℕ) (e : Event) (rest : List ℕ) → Reads w bytes v count part → IsEvent e → part ≡ event_bytes e ++ rest
    → (ltb count most_items && is_wanted v e.scn e.change) ≡ true → Reads w bytes (wanted_behind v e.scn e.change) (count + 1) rest
reads_more w bytes v count part e rest r is parts goes =
    let read = r.read in
    let cs = read.changes in
    let n = e.scn in
    let c = e.change in
    let p = and_parts (ltb count most_items) (is_wanted v n c) goes in
    let takes : IsTrue (is_wanted (wanted_after w read.scn cs) n c) = subst (λ (u : Wanted). IsTrue (is_wanted u n c)) r.wanted p.1 in
    let same : 0 < length cs → n ≡ read.scn = λ some. after_scn w read.scn cs n some (scn_of (wanted_after w read.scn cs) n c takes) in
    let at : Come w bytes n cs read.part = come_at w bytes read.scn n cs read.part same is.scn (come w bytes read) in
    let after : wanted_after w read.scn cs ≡ wanted_after w n cs = after_at w read.scn n cs same in
    let below : count < most_items = ltb-true count most_items p.0 in
    record {
      read = record {
        scn = n;
        changes = cs ++ c ∷ [];
        part = rest;
        parts =
            at.parts ∙ ap (λ (x : List ℕ). changes_bytes n cs ++ x) (sym r.left ∙ parts) ∙ regroup (changes_bytes n cs) (event_bytes e) rest
            ∙ ap (λ (x : List ℕ). x ++ rest) (sym (changes_bytes-push n cs c));
        formed = record {
          within = are_changes_push cs c at.formed.within (record { source = is.source; key = is.key; payload = is.payload });
          positive = λ _. is.positive;
          bound = is.scn;
        };
        wanted = are_push w n cs c at.wanted (subst (λ (u : Wanted). IsTrue (is_wanted u n c)) after takes);
        few = omega (arith, below, r.counted, length-append cs (c ∷ []));
      };
      wanted = ap (λ (u : Wanted). wanted_behind u n c) (r.wanted ∙ after) ∙ sym (after_push w n cs c);
      counted = omega (arith, r.counted, length-append cs (c ∷ []));
      left = refl;
    }

pub shorter : (e : Event) (part rest : List ℕ) → part ≡ event_bytes e ++ rest → length rest < length part
shorter e part rest parts = omega (arith, ap length parts, length-append (event_bytes e) rest, event_length e, change_positive e.change)

-- ---- where the reading ends

length_left : (w : Wanted) (bytes : List ℕ) (read : ItemsRead w bytes) → length bytes ≡ length (changes_bytes read.scn read.changes) + length read.part
length_left w bytes read = ap length read.parts ∙ length-append (changes_bytes read.scn read.changes) read.part

pub stops_here : (w : Wanted) (bytes : List ℕ) (v : Wanted) (count : ℕ) (part : List ℕ) → Reads w bytes v count part → goes_on v count (event_in_front part) ≡ false → ends v count (closing_in_front part) ≡ false
    → ItemsStop w bytes (length bytes - length part)
stops_here w bytes v count part r stays open_end = record {
  read = r.read;
  stops = inr (
    (λ i. goes_on (sym r.wanted i) (sym r.counted i) (event_in_front (sym r.left i))) ∙ stays,
    (λ i. ends (sym r.wanted i) (sym r.counted i) (closing_in_front (sym r.left i))) ∙ open_end,
    omega (arith, length_left w bytes r.read, ap length r.left),
  );
}

frame_long : (c : Closing) → length (closing_bytes c) ≡ 10
frame_long c = refl

pub stops_behind : (w : Wanted) (bytes : List ℕ) (v : Wanted) (count : ℕ) (part : List ℕ) (frame : Closing) (rest : List ℕ) → Reads w bytes v count part → closing_in_front part ≡ Some (frame, rest)
    → part ≡ closing_bytes frame ++ rest → can_end v count frame ≡ true → 0 < length rest → ItemsStop w bytes (length bytes - length rest)
stops_behind w bytes v count part frame rest r there parts can more = record {
  read = r.read;
  stops = inl (
    record {
      frame = frame;
      rest = rest;
      there = ap closing_in_front (sym r.left) ∙ there;
      can = (λ i. can_end (sym r.wanted i) (sym r.counted i) frame) ∙ can;
      more = more;
    },
    omega (arith, length_left w bytes r.read, ap length r.left, ap length parts, length-append (closing_bytes frame) rest, frame_long frame),
  );
}

same_run : (a b : Run) → eqb (run_kind a) (run_kind b) ≡ true → a ≡ b
same_run Rows Rows e = refl
same_run Rows Changes e = absurd cc
same_run Changes Rows e = absurd cc
same_run Changes Changes e = refl

no_bytes : (rest : List ℕ) → length rest ≡ 0 → rest ≡ []
no_bytes [] e = refl
no_bytes (b ∷ bs) e = absurd (omega (arith, e))

pub holds_all : (w : Wanted) (bytes : List ℕ) (v : Wanted) (count : ℕ) (part : List ℕ) (frame : Closing) (rest : List ℕ) → Reads w bytes v count part → frame.scn ≤ MAX_SCN
    → part ≡ closing_bytes frame ++ rest → can_end v count frame ≡ true → length rest ≡ 0 → HoldsItems w bytes count frame.scn frame.more
holds_all w bytes v count part frame rest r bound parts can none =
    let read = r.read in
    let cs = read.changes in
    let n = frame.scn in
    let all = and_parts (eqb (run_kind frame.run) (run_kind (run_wanted v)) && is_scn_wanted v n) (cond frame.more (ltb 0 count) true) can in
    let both = and_parts (eqb (run_kind frame.run) (run_kind (run_wanted v))) (is_scn_wanted v n) all.0 in
    let same : 0 < length cs → n ≡ read.scn = λ some. after_scn w read.scn cs n some (subst (λ (u : Wanted). IsTrue (is_scn_wanted u n)) r.wanted both.1) in
    let at : Come w bytes n cs read.part = come_at w bytes read.scn n cs read.part same bound (come w bytes read) in
    let after : v ≡ wanted_after w n cs = r.wanted ∙ after_at w read.scn n cs same in
    let run : frame.run ≡ run_wanted w = same_run frame.run (run_wanted v) both.0 ∙ ap (λ b. cond b Changes Rows) (ap (λ (u : Wanted). u.deletes) after ∙ after_deletes w n cs) in
    let framed : Closing = record { run = run_wanted w; scn = n; more = frame.more } in
    let is_framed : frame ≡ framed = (λ i. record { run = run i; scn = n; more = frame.more }) in
    record {
      changes = cs;
      spelled = at.parts ∙ ap (λ (x : List ℕ). changes_bytes n cs ++ x) (sym r.left ∙ parts ∙ (λ i. closing_bytes (is_framed i) ++ no_bytes rest none i) ∙ append-nil (closing_bytes framed));
      asked = record {
        formed = at.formed;
        wanted = at.wanted;
        few = read.few;
        ends = (λ i. can_end (sym after i) (sym r.counted i) (sym is_framed i)) ∙ can;
      };
      counted = r.counted;
    }

-- ---- changes stand at their target

fixed_scn : (target : ℕ) (cursor : Cursor) (filter : Selection) (n count : ℕ) (cs : List Change) (frame : Closing) → frame.scn ≡ n → AreWanted (changes_wanted target cursor filter) n cs
    → IsTrue (can_end (wanted_after (changes_wanted target cursor filter) n cs) count frame) → n ≡ target
fixed_scn target cursor filter n count [] frame is are ends =
    let w = changes_wanted target cursor filter in
    let all = and_parts (eqb (run_kind frame.run) (run_kind (run_wanted w)) && is_scn_wanted w frame.scn) (cond frame.more (ltb 0 count) true) ends in
    sym is ∙ one_scn target frame.scn (and_parts (eqb (run_kind frame.run) (run_kind (run_wanted w))) (is_scn_wanted w frame.scn) all.0).1
fixed_scn target cursor filter n count (c ∷ cs) frame is are ends = one_scn target n (scn_of (changes_wanted target cursor filter) n c are.0)

pub changes_held : (target : ℕ) (cursor : Cursor) (filter : Selection) (bytes : List ℕ) (count n : ℕ) (more : Bool) → HoldsItems (changes_wanted target cursor filter) bytes count n more
    → HoldsItems (changes_wanted target cursor filter) bytes count target more
changes_held target cursor filter bytes count n more holds =
    let w = changes_wanted target cursor filter in
    subst (λ k. HoldsItems w bytes count k more) (fixed_scn target cursor filter n (length holds.changes) holds.changes (record { run = run_wanted w; scn = n; more = more }) refl holds.asked.wanted holds.asked.ends) holds
