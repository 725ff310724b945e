-- The heads of requests.
use Rattle.std.specs.Prelude.{◌≡◌, ℕ, ◌≤◌, List, length, take, drop, map}
use Rattle.httparse.specs.Grammar.{RequestHead, ReadsRequest, print_request}
use Rattle.httparse.specs.Spans.{name_and_value}
use Rattle.desk_http.specs.Fields.{NamedValue}

-- the most bytes that a head may have
abbrev pub most_head : ℕ
most_head = 8192

-- the most fields that a head may have
abbrev pub most_fields : ℕ
most_fields = 64

-- a request: its method, its target, the names and values of its fields, and what follows its head
pub record Request : Type 0 where
  pub method : List ℕ
  pub target : List ℕ
  pub fields : List NamedValue
  pub rest : List ℕ

-- the request of a head at the front of these bytes
abbrev pub request_of : List ℕ → RequestHead → Request
request_of bytes head = record {
  method = head.method;
  target = head.target;
  fields = map name_and_value head.fields;
  rest = drop (length (print_request head)) bytes;
}

-- the bytes begin with the request: its head ends in the first bytes and hasn't too many fields
pub record IsRequest (bytes : List ℕ) (r : Request) : Type 0 where
  pub head : RequestHead
  pub after : List ℕ
  pub reads : ReadsRequest (take most_head bytes) head after
  pub few : length head.fields ≤ most_fields
  pub is : r ≡ request_of bytes head

-- the bytes begin with no request
abbrev pub HasNoHead : List ℕ → Type 0
HasNoHead bytes =
    (head : RequestHead) (after : List ℕ) → ReadsRequest (take most_head bytes) head after
    → ¬ (length head.fields ≤ most_fields)
