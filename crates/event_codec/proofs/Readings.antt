-- A stream is read in one way.
use Rattle.std.proofs.Common.{◌≡◌, ℕ, ◌<◌, ◌≤◌, true, ◌⊎◌, inl, inr, List, [], ◌∷◌, ◌++◌, length, refl, sym, ap, subst, ◌∙◌, append_assoc, arith}
use Rattle.std.proofs.lemmas.Bool.{lt-ltb, eq-eqb}
use Rattle.std.proofs.lemmas.List.{length-append, append-nil}
use Rattle.bus_types.specs.declared.change.Change.{Change}
use Rattle.bus_types.specs.declared.limits.TheConstants.{MAX_SCN}
use Rattle.bus_types.specs.Change.{AreChanges, change_size}
use Rattle.bus_types.specs.Window.{Span}
use Rattle.event_codec.specs.Bytes.{event_bytes, mark_bytes, changes_bytes, window_bytes}
use Rattle.event_codec.proofs.EventBytes.{one_event, no_event_is_a_mark}
use Rattle.event_codec.proofs.WindowBytes.{one_window}
use Rattle.event_codec.specs.Items.{Since, open_of, has_right_scn, Front, front_of}
use Rattle.event_codec.specs.Items.Front.{Unfinished, Refused, AnEvent, AMark}
use Rattle.event_codec.specs.Streams.{Comes, Come, after_window, after_windows, windows_bytes, Begins, Behind, IsReading}
use Rattle.event_codec.proofs.Fronts.{event_seen, mark_seen}
use Rattle.event_codec.proofs.Begun.{event, is_event, open_count, open_size, changes_size-append}

-- of a whole window, what stands behind the first changes: others, and the mark
record Left (n k p : ℕ) (cs ds : List Change) (part behind : List ℕ) : Type 0 where
  others : List Change
  changes : ds ≡ cs ++ others
  parts : part ≡ changes_bytes k others ++ (mark_bytes k p ++ behind)
  scn : 0 < length cs → n ≡ k

left_of : (n k p : ℕ) (cs ds : List Change) (part behind : List ℕ) → (0 < length cs → 0 < n) → n ≤ MAX_SCN → p < k → k ≤ MAX_SCN → AreChanges cs → AreChanges ds
    → changes_bytes n cs ++ part ≡ changes_bytes k ds ++ (mark_bytes k p ++ behind) → Left n k p cs ds part behind
left_of n k p [] ds part behind positive n_max order k_max are are_others same = record { others = ds; changes = refl; parts = same; scn = λ h. absurd (omega (arith, h)) }
left_of n k p (c ∷ cs) [] part behind positive n_max order k_max are are_others same =
    absurd (no_event_is_a_mark (event n c) k p (changes_bytes n cs ++ part) behind (sym (append_assoc (event_bytes (event n c)) (changes_bytes n cs) part) ∙ same))
left_of n k p (c ∷ cs) (d ∷ ds) part behind positive n_max order k_max are are_others same =
    let is : 0 < n = positive (omega arith) in
    let after = changes_bytes k ds ++ (mark_bytes k p ++ behind) in
    let one =
    one_event (event n c) (event k d) (changes_bytes n cs ++ part) after (is_event n c is n_max are.0) (is_event k d (omega (arith, order)) k_max are_others.0)
    (sym (append_assoc (event_bytes (event n c)) (changes_bytes n cs) part) ∙ same ∙ append_assoc (event_bytes (event k d)) (changes_bytes k ds) (mark_bytes k p ++ behind)) in
    let rest = left_of n k p cs ds part behind (λ _. is) n_max order k_max are.1 are_others.1 one.1 in
    record {
      others = rest.others;
      changes = (λ i. sym (λ j. (one.0 j).change) i ∷ rest.changes i);
      parts = rest.parts;
      scn = λ _. (λ i. (one.0 i).scn);
    }

-- a front that stops a scan
data Stops : Front → Type 0 where
  unfinished : Stops Unfinished
  refused : Stops Refused

no_event_stops : {f : Front} (n : ℕ) (c : Change) (m : ℕ) → Stops f → f ≡ AnEvent n c m → ⊥
no_event_stops n c m unfinished e = absurd cc
no_event_stops n c m refused e = absurd cc

no_mark_stops : {f : Front} (n p : ℕ) → Stops f → f ≡ AMark n p → ⊥
no_mark_stops n p unfinished e = absurd cc
no_mark_stops n p refused e = absurd cc

-- the SCN of the window is the right one behind its first changes
pub right_of : (s : Since) (n k : ℕ) (cs : List Change) → s.floor < k → (0 < length cs → n ≡ k) → has_right_scn s (open_of n cs).scn k ≡ true
right_of s n k [] above same = lt-ltb s.floor k above
right_of s n k (c ∷ cs) above same = eq-eqb k n (sym (same (omega arith)))

pub changes_after : (cs ds : List Change) → AreChanges (cs ++ ds) → AreChanges ds
changes_after [] ds are = are
changes_after (c ∷ cs) ds are = changes_after cs ds are.1

-- no scan stops before an event of changes with which a window can begin
event_goes_on : (s : Since) (n k : ℕ) (cs : List Change) (c : Change) (others : List Change) (part after : List ℕ) (f : Front) → Begins s k (cs ++ c ∷ others) → (0 < length cs → n ≡ k)
    → part ≡ event_bytes (event k c) ++ after → front_of s (open_of n cs) part ≡ f → Stops f → ⊥
event_goes_on s n k cs c others part after f begins same parts stops is =
    let are = changes_after cs (c ∷ others) begins.changes in
    let above : s.floor < k = begins.above (omega (arith, length-append cs (c ∷ others))) in
    let seen = event_seen s (open_of n cs) (event k c) after (record {
      within = is_event k c (omega (arith, above)) begins.scn are.0;
      right = right_of s n k cs above same;
      count = omega (arith, open_count n cs, begins.count, length-append cs (c ∷ others));
      room = omega (arith, open_size n cs, begins.size, changes_size-append cs (c ∷ others));
    }) in
    no_event_stops k c (change_size c) is (sym stops ∙ ap (front_of s (open_of n cs)) parts ∙ seen)

goes_on : (s : Since) (n k p : ℕ) (cs others : List Change) (part behind : List ℕ) (f : Front) → Comes s (record { scn = k; prev = p; changes = cs ++ others }) → (0 < length cs → n ≡ k)
    → part ≡ changes_bytes k others ++ (mark_bytes k p ++ behind) → front_of s (open_of n cs) part ≡ f → Stops f → ⊥
goes_on s n k p cs [] part behind f comes same parts stops is =
    let seen = mark_seen s (open_of n cs) k p behind (record { bound = comes.within.scn; order = comes.within.prev; right = right_of s n k cs comes.above same; chained = comes.chained }) in
    no_mark_stops k p is (sym stops ∙ ap (front_of s (open_of n cs)) parts ∙ seen)
goes_on s n k p cs (c ∷ others) part behind f comes same parts stops is =
    let within = comes.within in
    let begins : Begins s k (cs ++ c ∷ others) = record { above = λ _. comes.above; scn = within.scn; count = within.count; size = within.size; changes = within.changes } in
    event_goes_on s n k cs c others part (changes_bytes k others ++ (mark_bytes k p ++ behind)) f begins same (parts ∙ append_assoc (event_bytes (event k c)) (changes_bytes k others) (mark_bytes k p ++ behind)) stops is

-- a scan doesn't stop before a whole window
never_stops : (s : Since) (rest : List ℕ) (w : Span) (behind : List ℕ) (f : Front) → Comes s w → Behind s rest f → Stops f → rest ≡ window_bytes w ++ behind → ⊥
never_stops s rest w behind f comes stop is same =
    let cs = stop.changes in
    let begins = stop.begins in
    let grouped = sym stop.bytes ∙ same ∙ append_assoc (changes_bytes w.scn w.changes) (mark_bytes w.scn w.prev) behind in
    let left = left_of stop.scn w.scn w.prev cs w.changes stop.part behind (λ h. omega (arith, begins.above h)) begins.scn comes.within.prev comes.within.scn begins.changes comes.within.changes grouped in
    goes_on s stop.scn w.scn w.prev cs left.others stop.part behind f (subst (λ (ds : List Change). Comes s (record { scn = w.scn; prev = w.prev; changes = ds })) left.changes comes) left.scn left.parts stop.stops is

never : (s : Since) (rest : List ℕ) (w : Span) (behind : List ℕ) → Comes s w → Behind s rest Unfinished ⊎ Behind s rest Refused → rest ≡ window_bytes w ++ behind → ⊥
never s rest w behind comes (inl stop) same = never_stops s rest w behind Unfinished comes stop unfinished same
never s rest w behind comes (inr stop) same = never_stops s rest w behind Refused comes stop refused same

abbrev Ends : Since → List ℕ → Type 0
Ends s rest = Behind s rest Unfinished ⊎ Behind s rest Refused

same_reading : (s : Since) (ws vs : List Span) (rest other : List ℕ) → Come s ws → Come s vs → Ends (after_windows s ws) rest → Ends (after_windows s vs) other → windows_bytes ws ++ rest ≡ windows_bytes vs ++ other → (ws ≡ vs) × (rest ≡ other)
same_reading s [] [] rest other come come_other ends ends_other same = (refl, same)
same_reading s [] (v ∷ vs) rest other come come_other ends ends_other same =
    absurd (never s rest v (windows_bytes vs ++ other) come_other.0 ends (same ∙ append_assoc (window_bytes v) (windows_bytes vs) other))
same_reading s (w ∷ ws) [] rest other come come_other ends ends_other same =
    absurd (never s other w (windows_bytes ws ++ rest) come.0 ends_other (sym same ∙ append_assoc (window_bytes w) (windows_bytes ws) rest))
same_reading s (w ∷ ws) (v ∷ vs) rest other come come_other ends ends_other same =
    let one =
    one_window w v (windows_bytes ws ++ rest) (windows_bytes vs ++ other) come.0.within come_other.0.within
    (sym (append_assoc (window_bytes w) (windows_bytes ws) rest) ∙ same ∙ append_assoc (window_bytes v) (windows_bytes vs) other) in
    let after : after_window s w ≡ after_window s v = ap (after_window s) one.0 in
    let others =
    same_reading (after_window s v) ws vs rest other (subst (λ (q : Since). Come q ws) after come.1) come_other.1 (subst (λ (q : Since). Ends (after_windows q ws) rest) after ends) ends_other one.1 in
    (λ i. one.0 i ∷ others.0 i, others.1)

pub one_reading : (s : Since) (bytes : List ℕ) (ws vs : List Span) (rest other : List ℕ) → IsReading s bytes ws rest → IsReading s bytes vs other → (ws ≡ vs) × (rest ≡ other)
one_reading s bytes ws vs rest other one two = same_reading s ws vs rest other one.come two.come one.stops two.stops (sym one.parts ∙ two.parts)

-- ---- the place where a scan stops

-- one list of events is the front of another
record More (n k : ℕ) (cs ds : List Change) (part behind : List ℕ) : Type 0 where
  others : List Change
  changes : ds ≡ cs ++ others
  parts : part ≡ changes_bytes k others ++ behind
  scn : 0 < length cs → n ≡ k

-- changes whose events can be read
record Read (n : ℕ) (cs : List Change) : Type 0 where
  positive : 0 < length cs → 0 < n
  bound : n ≤ MAX_SCN
  are : AreChanges cs

read_begins : (s : Since) (n : ℕ) (cs : List Change) → Begins s n cs → Read n cs
read_begins s n cs begins = record { positive = λ h. omega (arith, begins.above h); bound = begins.scn; are = begins.changes }

one_before : (n k : ℕ) (cs ds : List Change) (part behind : List ℕ) → Read n cs → Read k ds → changes_bytes n cs ++ part ≡ changes_bytes k ds ++ behind → More n k cs ds part behind ⊎ More k n ds cs behind part
one_before n k [] ds part behind one two same = inl (record { others = ds; changes = refl; parts = same; scn = λ h. absurd (omega (arith, h)) })
one_before n k (c ∷ cs) [] part behind one two same = inr (record { others = c ∷ cs; changes = refl; parts = sym same; scn = λ h. absurd (omega (arith, h)) })
one_before n k (c ∷ cs) (d ∷ ds) part behind one two same =
    let n_is : 0 < n = one.positive (omega arith) in
    let k_is : 0 < k = two.positive (omega arith) in
    let first =
    one_event (event n c) (event k d) (changes_bytes n cs ++ part) (changes_bytes k ds ++ behind) (is_event n c n_is one.bound one.are.0) (is_event k d k_is two.bound two.are.0)
    (sym (append_assoc (event_bytes (event n c)) (changes_bytes n cs) part) ∙ same ∙ append_assoc (event_bytes (event k d)) (changes_bytes k ds) behind) in
    let scn : n ≡ k = (λ i. (first.0 i).scn) in
    let rest = one_before n k cs ds part behind (record { positive = λ _. n_is; bound = one.bound; are = one.are.1 }) (record { positive = λ _. k_is; bound = two.bound; are = two.are.1 }) first.1 in
    elim rest [
      | inl more ↦ inl (record { others = more.others; changes = (λ i. sym (λ j. (first.0 j).change) i ∷ more.changes i); parts = more.parts; scn = λ _. scn })
      | inr more ↦ inr (record { others = more.others; changes = (λ i. (first.0 i).change ∷ more.changes i); parts = more.parts; scn = λ _. sym scn })
    ]

open_same : (n k : ℕ) (cs : List Change) → (0 < length cs → n ≡ k) → open_of n cs ≡ open_of k cs
open_same n k [] same = refl
open_same n k (c ∷ cs) same = ap (λ j. open_of j (c ∷ cs)) (same (omega arith))

none_more : (s : Since) (n k : ℕ) (cs others : List Change) (part behind : List ℕ) (f : Front) → Begins s k (cs ++ others) → (0 < length cs → n ≡ k) → part ≡ changes_bytes k others ++ behind → front_of s (open_of n cs) part ≡ f → Stops f → others ≡ []
none_more s n k cs [] part behind f begins same parts stops is = refl
none_more s n k cs (c ∷ others) part behind f begins same parts stops is =
    absurd (event_goes_on s n k cs c others part (changes_bytes k others ++ behind) f begins same (parts ∙ append_assoc (event_bytes (event k c)) (changes_bytes k others) behind) stops is)

-- the same front and the same bytes behind the events
same_stop : (s : Since) (n k : ℕ) (cs ds : List Change) (part behind : List ℕ) (f g : Front) → Begins s k ds → front_of s (open_of n cs) part ≡ f → front_of s (open_of k ds) behind ≡ g → Stops f → More n k cs ds part behind
    → (f ≡ g) × (part ≡ behind)
same_stop s n k cs ds part behind f g begins stops stops_other is more =
    let none = none_more s n k cs more.others part behind f (subst (λ (x : List Change). Begins s k x) more.changes begins) more.scn more.parts stops is in
    let changes : ds ≡ cs = more.changes ∙ ap (λ (x : List Change). cs ++ x) none ∙ append-nil cs in
    let parts : part ≡ behind = more.parts ∙ ap (λ (x : List Change). changes_bytes k x ++ behind) none in
    let known : open_of n cs ≡ open_of k ds = open_same n k cs more.scn ∙ ap (open_of k) (sym changes) in
    (sym stops ∙ (λ i. front_of s (known i) (parts i)) ∙ stops_other, parts)

same_length : (a b x y : List ℕ) → a ++ x ≡ b ++ y → x ≡ y → length a ≡ length b
same_length a b x y same tail = omega (arith, ap length same, ap length tail, length-append a x, length-append b y)

stops_of : (f : Front) → (f ≡ Unfinished) ⊎ (f ≡ Refused) → Stops f
stops_of f (inl e) = subst Stops (sym e) unfinished
stops_of f (inr e) = subst Stops (sym e) refused

pub one_place : (s : Since) (rest : List ℕ) (f g : Front) (one : Behind s rest f) (two : Behind s rest g) → (f ≡ Unfinished) ⊎ (f ≡ Refused) → (g ≡ Unfinished) ⊎ (g ≡ Refused)
    → (f ≡ g) × (length (changes_bytes one.scn one.changes) ≡ length (changes_bytes two.scn two.changes))
one_place s rest f g one two f_is g_is =
    let same : changes_bytes one.scn one.changes ++ one.part ≡ changes_bytes two.scn two.changes ++ two.part = sym one.bytes ∙ two.bytes in
    elim (one_before one.scn two.scn one.changes two.changes one.part two.part (read_begins s one.scn one.changes one.begins) (read_begins s two.scn two.changes two.begins) same) [
      | inl more ↦ (let at = same_stop s one.scn two.scn one.changes two.changes one.part two.part f g two.begins one.stops two.stops (stops_of f f_is) more in
          (at.0, same_length (changes_bytes one.scn one.changes) (changes_bytes two.scn two.changes) one.part two.part same at.1))
      | inr more ↦ (let at = same_stop s two.scn one.scn two.changes one.changes two.part one.part g f one.begins two.stops one.stops (stops_of g g_is) more in
          (sym at.0, same_length (changes_bytes one.scn one.changes) (changes_bytes two.scn two.changes) one.part two.part same (sym at.1)))
    ]
