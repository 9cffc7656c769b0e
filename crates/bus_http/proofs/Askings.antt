-- What a client writes to ask, of its parts.
use Rattle.std.proofs.Common.{◌≡◌, ℕ, List, ◌++◌, codes, sym, ap, ◌∙◌, append_assoc}

-- a request of a path and a form
abbrev pub request_text : List ℕ → List ℕ → List ℕ
request_text path form = codes "GET " ++ path ++ codes "?" ++ form ++ codes " HTTP/1.1\r\nHost: localhost\r\n\r\n"

regroup : (a b c d e : List ℕ) → a ++ (b ++ (c ++ (d ++ e))) ≡ a ++ b ++ c ++ d ++ e
regroup a b c d e = sym (append_assoc a b (c ++ (d ++ e))) ∙ sym (append_assoc (a ++ b) c (d ++ e)) ∙ sym (append_assoc (a ++ b ++ c) d e)

pub same_request : (path form p f text : List ℕ) → text ≡ codes "GET " ++ (p ++ (codes "?" ++ (f ++ codes " HTTP/1.1\r\nHost: localhost\r\n\r\n"))) → p ≡ path → f ≡ form → text ≡ request_text path form
same_request path form p f text is is_path is_form =
    is ∙ regroup (codes "GET ") p (codes "?") f (codes " HTTP/1.1\r\nHost: localhost\r\n\r\n") ∙ ap (λ x. request_text x f) is_path ∙ ap (request_text path) is_form
