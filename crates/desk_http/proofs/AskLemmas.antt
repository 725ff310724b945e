-- The request that a link's bytes begin with.
use Rattle.std.proofs.Common.{◌≡◌, ℕ, zero, suc, ◌-◌, ◌≤◌, ◌<◌, Bool, true, false, cond, nat_lt, List, [], ◌∷◌, ◌++◌, length, take, drop, map, Option, Some, None, Result, Ok, Err, IfOk, refl, sym, subst, ap, ◌∙◌, append_assoc, arith}
use Rattle.std.proofs.lemmas.Bool.{ltb-true, ltb-false}
use Rattle.std.proofs.lemmas.List.{drop-append-le, length-map, length-take, length-append}
use Rattle.httparse.specs.Grammar.{RequestHead, print_request}
use Rattle.httparse.specs.Spans.{IsRequestAt, IsRequestWithin, name_and_value, header_bytes}
use Rattle.httparse.specs.declared.spans.HeaderSpan.{HeaderSpan}
use Rattle.httparse.specs.declared.spans.RequestSpans.{RequestSpans}
use Rattle.desk_http.specs.Fields.{body_length}
use Rattle.desk_http.specs.Paths.{path_of}
use Rattle.desk_http.specs.Requests.{IsRequest, HasNoHead, request_of}
use Rattle.desk_http.specs.inner.Heads.{IsRequestHead, FindsHead}
use Rattle.desk_http.specs.declared.served.ReadError.{ReadError}
use Rattle.desk_http.specs.declared.head.Front.{Front}
use Rattle.desk_http.specs.inner.Wire.{HasRead}
use Rattle.desk_http.specs.Asking.{wanted_at, with_rest, asked_of, Asks, has_head}
use Rattle.desk_http.specs.declared.asked.Asked.{Asked}
use Rattle.desk_http.specs.declared.asked.Asked.TheVariants as asked
use Rattle.desk_http.specs.declared.asked.Wanted.{Wanted}
use Rattle.desk_http.specs.declared.asked.Wanted.TheVariants as wanted
use Rattle.desk_http.proofs.ReadLemmas.{front, rest_of}

pub is_request : (a : List ℕ) (headers : List HeaderSpan) (spans : RequestSpans) (h : RequestHead) → IsRequestAt a headers spans h → length a ≤ 8192 → length headers ≡ 64 → (input rest : List ℕ) → input ≡ a ++ rest → IsRequest input (request_of input h)
is_request a headers spans h at short room input rest whole =
    let more : List ℕ = take (8192 - length a) rest in
    let same : take 8192 input ≡ a ++ more = ap (take 8192) whole ∙ front a rest 8192 short in
    record {
      head = h;
      after = drop spans.len a ++ more;
      reads = (at.reads.0, same ∙ ap (λ (t : List ℕ). t ++ more) at.reads.1 ∙ append_assoc (print_request h) (drop spans.len a) more);
      few = omega (arith, ap length at.fields, length-map (take spans.headers headers) (header_bytes a), length-map h.fields name_and_value, length-take spans.headers headers, room);
      is = refl;
    }

-- what follows the head
pub rest_of_head : (a : List ℕ) (headers : List HeaderSpan) (spans : RequestSpans) (h : RequestHead) → IsRequestAt a headers spans h → IsRequestWithin a headers spans → (input rest : List ℕ) → input ≡ a ++ rest → drop (length (print_request h)) input ≡ drop spans.len a ++ rest
rest_of_head a headers spans h at within input rest whole =
    ap (λ (n : ℕ). drop n input) (sym at.len) ∙ ap (drop spans.len) whole ∙ drop-append-le spans.len a rest within.section.len_fits

take_front : (n : ℕ) (xs ys : List ℕ) → take n (take n xs ++ ys) ≡ take n (xs ++ ys)
take_front zero xs ys = refl
take_front (suc n) [] ys = refl
take_front (suc n) (x ∷ xs) ys = ap (λ (t : List ℕ). x ∷ t) (take_front n xs ys)

-- a body that is whole
pub put_is : (name front input text body : List ℕ) (count : ℕ) → text ≡ take count front → count ≤ length (text ++ input) → body ≡ take count (text ++ input) → asked.Put name body ≡ with_rest (front ++ input) (wanted.Body name count)
put_is name front input text body count is enough same = by (nat_lt (length (front ++ input)) count) refl
  where
    long : count ≤ length (front ++ input)
    long = omega (arith, enough, length-append text input, length-append front input, ap length is, length-take count front)

    by : (b : Bool) → nat_lt (length (front ++ input)) count ≡ b → asked.Put name body ≡ cond b asked.BadRequest (asked.Put name (take count (front ++ input)))
    by true e = absurd (omega (arith, long, ltb-true _ _ e))
    by false e = ap (asked.Put name) (same ∙ ap (λ (t : List ℕ). take count (t ++ input)) is ∙ take_front count front input)

-- and one that isn't
pub bad_is : (name front input text : List ℕ) (count : ℕ) → text ≡ take count front → length (text ++ input) < count → asked.BadRequest ≡ with_rest (front ++ input) (wanted.Body name count)
bad_is name front input text count is few = by (nat_lt (length (front ++ input)) count) refl
  where
    short : length (front ++ input) < count
    short = omega (arith, few, length-append text input, length-append front input, ap length is, length-take count front)

    by : (b : Bool) → nat_lt (length (front ++ input)) count ≡ b → asked.BadRequest ≡ cond b asked.BadRequest (asked.Put name (take count (front ++ input)))
    by true e = refl
    by false e = absurd (omega (arith, short, ltb-false _ _ e))

-- the head's request asks for what it wants, with what follows it
pub asks_of : (a : List ℕ) (headers : List HeaderSpan) (spans : RequestSpans) (w : Wanted) (x : Asked) (old new : Option (List ℕ)) → IsRequestHead a headers spans → length a ≤ 8192 → length headers ≡ 64 → HasRead a old new
    → ((h : RequestHead) → IsRequestAt a headers spans h → w ≡ wanted_at h.method (path_of h.target) (body_length (map name_and_value h.fields)))
    → ((rest : List ℕ) → new ≡ Some rest → x ≡ with_rest (drop spans.len a ++ rest) w)
    → (input : List ℕ) → old ≡ Some input → Asks input x
asks_of a headers spans w x old new head short room read wants gives input told =
    let r = rest_of a input old new read told in
    let h : RequestHead = head.of.0 in
    let at : IsRequestAt a headers spans h = head.of.1 in
    let same : asked_of (request_of input h) ≡ x =
    ap (λ (v : Wanted). with_rest (drop (length (print_request h)) input) v) (sym (wants h at))
    ∙ ap (λ (t : List ℕ). with_rest t w) (rest_of_head a headers spans h at head.within input r.0 r.2)
    ∙ sym (gives r.0 r.1) in
    subst (Asks input) same (has_head (request_of input h) (is_request a headers spans h at short room input r.0 r.2))

-- no head was found
pub none_found : (buf : List ℕ) (headers : List HeaderSpan) (old new : Option (List ℕ)) (r : Option Front) → ((f : Front) → r ≡ Some f → ⊥) → FindsHead buf headers old new (Ok r) → (input : List ℕ) → old ≡ Some input → HasNoHead input
none_found buf headers old new None never found = found
none_found buf headers old new (Some f) never found = absurd (never f refl)

pub map_ok : {P Q : Asked → Type 0} (r : Result Asked ReadError) → ((x : Asked) → P x → Q x) → IfOk r P → IfOk r Q
map_ok (Ok x) f p = f x p
map_ok (Err e) f p = p
