-- Bytes ask for one thing.
use Rattle.std.proofs.Common.{◌≡◌, List, ℕ, take, refl, sym, ap, ◌∙◌}
use Rattle.httparse.specs.Grammar.{RequestHead}
use Rattle.httparse.proofs.GrammarLemmas.{request_unique}
use Rattle.desk_http.specs.Asking.{Asks, no_head, has_head, asked_of}
use Rattle.desk_http.specs.Repeating.{AsksOne}
use Rattle.desk_http.specs.Requests.{Request, IsRequest, HasNoHead, request_of}
use Rattle.desk_http.specs.declared.asked.Asked.{Asked}
use Rattle.desk_http.specs.declared.asked.Asked.TheVariants as asked

-- bytes begin with one request
one_request : (bytes : List ℕ) (r q : Request) → IsRequest bytes r → IsRequest bytes q → r ≡ q
one_request bytes r q a b =
    let same = request_unique (take 8192 bytes) a.head b.head a.after b.after a.reads b.reads in
    a.is ∙ ap (request_of bytes) same.0 ∙ sym b.is

-- and with none or one
no_request : (bytes : List ℕ) (r : Request) → HasNoHead bytes → IsRequest bytes r → ⊥
no_request bytes r none a = none a.head a.after a.reads a.few

pub asks_one : AsksOne
asks_one bytes _ _ (no_head none) (no_head never) = refl
asks_one bytes _ _ (no_head none) (has_head r is) = absurd (no_request bytes r none is)
asks_one bytes _ _ (has_head r is) (no_head none) = absurd (no_request bytes r none is)
asks_one bytes _ _ (has_head r is) (has_head q that) = ap asked_of (one_request bytes r q is that)
