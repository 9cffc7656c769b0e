-- The end of a head that is found byte by byte is the one that is defined.
use Rattle.std.proofs.Common.{◌≡◌, ℕ, ◌+◌, ◌==◌, ◌&&◌, nat_lt, Bool, true, false, if◌then◌else◌, List, [], ◌∷◌, Option, Some, refl, ap, ◌∙◌, arith}
use Rattle.bus_http.specs.declared.ending.Seen.TheVariants.{Front, Inside, LineFeed, Return}
use Rattle.bus_http.specs.Ending.{begins_lf, empty_line, end_inside, end_from, head_end, is_line_end, end_after}

inside_step : (t : Bool) (place : ℕ) (bs : List ℕ) → end_after (place + 1) Inside bs ≡ end_inside (place + 1) bs
    → end_after (place + 1) LineFeed bs ≡ (if nat_lt 0 (empty_line bs) then Some (place + 1 + empty_line bs) else end_inside (place + 1) bs)
    → end_after (place + 1) (if t then LineFeed else Inside) bs ≡ (if t && nat_lt 0 (empty_line bs) then Some (place + 1 + empty_line bs) else end_inside (place + 1) bs)
inside_step true place bs i l = l
inside_step false place bs i l = i

two_steps : (q : Bool) (place : ℕ) (x : Option ℕ) → (if q then Some (place + 1 + 1) else x) ≡ (if nat_lt 0 (if q then 2 else 0) then Some (place + (if q then 2 else 0)) else x)
two_steps true place x = ap Some (omega arith)
two_steps false place x = refl

line_step : (t r : Bool) (place : ℕ) (cs : List ℕ) → end_after (place + 1) Inside cs ≡ end_inside (place + 1) cs
    → end_after (place + 1) Return cs ≡ (if begins_lf cs then Some (place + 1 + 1) else end_inside (place + 1) cs)
    → (if t then Some (place + 1) else end_after (place + 1) (if r then Return else Inside) cs)
    ≡ (if nat_lt 0 (if t then 1 else if r && begins_lf cs then 2 else 0) then Some (place + (if t then 1 else if r && begins_lf cs then 2 else 0))
    else if t && nat_lt 0 (empty_line cs) then Some (place + 1 + empty_line cs) else end_inside (place + 1) cs)
line_step true r place cs i e = refl
line_step false false place cs i e = i
line_step false true place cs i e = e ∙ two_steps (begins_lf cs) place (end_inside (place + 1) cs)

return_step : (t : Bool) (place : ℕ) (ds : List ℕ) → end_after (place + 1) Inside ds ≡ end_inside (place + 1) ds
    → (if t then Some (place + 1) else end_after (place + 1) Inside ds)
    ≡ (if t then Some (place + 1) else if t && nat_lt 0 (empty_line ds) then Some (place + 1 + empty_line ds) else end_inside (place + 1) ds)
return_step true place ds i = refl
return_step false place ds i = i

record Steps (bs : List ℕ) : Type 0 where
  inside : (place : ℕ) → end_after place Inside bs ≡ end_inside place bs
  line : (place : ℕ) → end_after place LineFeed bs ≡ (if nat_lt 0 (empty_line bs) then Some (place + empty_line bs) else end_inside place bs)
  back : (place : ℕ) → end_after place Return bs ≡ (if begins_lf bs then Some (place + 1) else end_inside place bs)

steps : (bs : List ℕ) → Steps bs
steps [] = record { inside = λ _. refl; line = λ _. refl; back = λ _. refl }
steps (b ∷ bs) =
    let rest : Steps bs = steps bs in
    record {
      inside = λ place. inside_step (b == 10) place bs (rest.inside (place + 1)) (rest.line (place + 1));
      line = λ place. line_step (b == 10) (b == 13) place bs (rest.inside (place + 1)) (rest.back (place + 1));
      back = λ place. return_step (b == 10) place bs (rest.inside (place + 1));
    }

front_step : (t : Bool) (place : ℕ) (bs : List ℕ) → end_after place Front bs ≡ end_from place bs → end_after place Inside bs ≡ end_inside place bs
    → end_after place (if t then Front else Inside) bs ≡ (if t then end_from place bs else end_inside place bs)
front_step true place bs f i = f
front_step false place bs f i = i

from_front : (bs : List ℕ) (place : ℕ) → end_after place Front bs ≡ end_from place bs
from_front [] place = refl
from_front (b ∷ bs) place = front_step (is_line_end b) (place + 1) bs (from_front bs (place + 1)) ((steps bs).inside (place + 1))

pub found_end : (bytes : List ℕ) → end_after 0 Front bytes ≡ head_end bytes
unfolding head_end
found_end bytes = from_front bytes 0
