-- The first piece of bytes, and those after it.
use Rattle.std.proofs.Common.{◌≡◌, ◌<◌, ◌+◌, ◌==◌, ℕ, suc, Bool, true, false, cond, List, [], ◌∷◌, ◌++◌, ◌≤◌, not, length, take, drop, take_all, append_assoc, append-nil, refl, sym, ap, ◌∙◌, arith, inl, inr}
use Rattle.std.proofs.lemmas.Bool.{cases_Bool, false≢true, and_parts, and_from, not-true, eqb-true, eq-eqb}
use Rattle.std.specs.List.{list_all, position_or_len}
use Rattle.astg_lex.proofs.ListLemmas.{drop-none, all-append}
use Rattle.stg_steps.specs.inner.Reading.{pieces}
use Rattle.astg_lex.specs.Lines.{with_byte}
use Rattle.stg_steps.specs.LogText.{LogRow, spaced, line_of}
use Rattle.stg_steps.proofs.Gaps.{lacks}

stops : (c b : ℕ) (bs : List ℕ) → (b == c) ≡ true → pieces c (b ∷ bs) ≡ [] ∷ pieces c bs
stops c b bs k = ap (λ s. cond s ([] ∷ pieces c bs) (with_byte b (pieces c bs))) k

goes : (c b : ℕ) (bs : List ℕ) → (b == c) ≡ false → pieces c (b ∷ bs) ≡ with_byte b (pieces c bs)
goes c b bs k = ap (λ s. cond s ([] ∷ pieces c bs) (with_byte b (pieces c bs))) k

-- how many bytes stand before the first c
abbrev pub piece_length : ℕ → List ℕ → ℕ
piece_length c bs = position_or_len (λ b. b == c) bs

pub no_length : (c b : ℕ) (bs : List ℕ) → (b == c) ≡ true → piece_length c (b ∷ bs) ≡ 0
no_length c b bs k = ap {B = ℕ} (λ s. cond (not s) (1 + piece_length c bs) 0) k

pub more_length : (c b : ℕ) (bs : List ℕ) → (b == c) ≡ false → piece_length c (b ∷ bs) ≡ suc (piece_length c bs)
more_length c b bs k = ap {B = ℕ} (λ s. cond (not s) (1 + piece_length c bs) 0) k ∙ (let e : 1 + piece_length c bs ≡ suc (piece_length c bs) = omega arith in e)

-- where no byte is the stop there is one piece
pub pieces-last : (c : ℕ) (bs : List ℕ) → piece_length c bs ≡ length bs → pieces c bs ≡ bs ∷ []
pieces-last c [] e = refl
pieces-last c (b ∷ bs) e = elim (cases_Bool (b == c)) [
  | inl k ↦ absurd (omega (arith, e, no_length c b bs k))
  | inr k ↦ goes c b bs k ∙ ap (with_byte b) (pieces-last c bs (omega (arith, e, more_length c b bs k)))
]

-- else the first piece ends before the stop
first : (c : ℕ) (bs : List ℕ) → piece_length c bs < length bs → pieces c bs ≡ take (piece_length c bs) bs ∷ pieces c (drop (suc (piece_length c bs)) bs)
first c [] lt = absurd (omega (arith, lt))
first c (b ∷ bs) lt = elim (cases_Bool (b == c)) [
  | inl k ↦ stops c b bs k ∙ ap (λ xs. [] ∷ pieces c xs) (sym (drop-none bs)) ∙ sym (ap (λ n. take n (b ∷ bs) ∷ pieces c (drop (suc n) (b ∷ bs))) (no_length c b bs k))
  | inr k ↦ goes c b bs k ∙ ap (with_byte b) (first c bs (omega (arith, lt, more_length c b bs k))) ∙ sym (ap (λ n. take n (b ∷ bs) ∷ pieces c (drop (suc n) (b ∷ bs))) (more_length c b bs k))
]

pub pieces-first : (c : ℕ) (bs : List ℕ) (k : ℕ) → k ≡ piece_length c bs → k < length bs → pieces c bs ≡ take k bs ∷ pieces c (drop (k + 1) bs)
pieces-first c bs k e lt =
    let next : suc k ≡ k + 1 = omega arith in
    first c bs (omega (arith, e, lt)) ∙ ap (λ n. take n bs ∷ pieces c (drop (suc n) bs)) (sym e) ∙ ap (λ n. take k bs ∷ pieces c (drop n bs)) next

-- the last word of a line
pub split_last : (c : ℕ) (ws more whole : LogRow) (rest : List ℕ) (k : ℕ) → ws ++ pieces c rest ≡ whole → k ≡ piece_length c rest → k ≤ length rest → length rest ≤ k → more ≡ ws ++ take k rest ∷ [] → more ≡ whole
split_last c ws more whole rest k e k_is most least more_is =
    let all : take k rest ≡ rest = take_all k rest least in
    let last : pieces c rest ≡ rest ∷ [] = pieces-last c rest (omega (arith, k_is, most, least)) in
    more_is ∙ ap (λ w. ws ++ w ∷ []) all ∙ ap (λ p. ws ++ p) (sym last) ∙ e

-- a word that isn't the last one
pub split_next : (c : ℕ) (ws more whole : LogRow) (rest next : List ℕ) (k : ℕ) → ws ++ pieces c rest ≡ whole → k ≡ piece_length c rest → k < length rest → next ≡ drop (k + 1) rest → more ≡ ws ++ take k rest ∷ [] → more ++ pieces c next ≡ whole
split_next c ws more whole rest next k e k_is below next_is more_is =
    ap (λ m. m ++ pieces c next) more_is ∙ append_assoc ws (take k rest ∷ []) (pieces c next)
    ∙ ap (λ x. ws ++ (take k rest ∷ pieces c x)) next_is ∙ ap (λ p. ws ++ p) (sym (pieces-first c rest k k_is below)) ∙ e

-- pieces behind others, each after the byte c
abbrev pub tailed : ℕ → LogRow → List ℕ
tailed c [] = []
tailed c (w ∷ ws) = c ∷ w ++ tailed c ws

-- pieces with the byte c between each two
abbrev pub parted : ℕ → LogRow → List ℕ
parted c [] = []
parted c (w ∷ ws) = w ++ tailed c ws

-- a piece stands in front
abbrev pub has_front : LogRow → Bool
has_front [] = false
has_front (w ∷ ws) = true

with_byte-front : (b : ℕ) (ws : LogRow) → has_front (with_byte b ws) ≡ true
with_byte-front b [] = refl
with_byte-front b (w ∷ ws) = refl

pub pieces_front : (c : ℕ) (bs : List ℕ) → has_front (pieces c bs) ≡ true
pieces_front c [] = refl
pieces_front c (b ∷ bs) = elim (cases_Bool (b == c)) [
  | inl k ↦ ap has_front (stops c b bs k)
  | inr k ↦ ap has_front (goes c b bs k) ∙ with_byte-front b (pieces c bs)
]

tailed-front : (c : ℕ) (ws : LogRow) → has_front ws ≡ true → tailed c ws ≡ c ∷ parted c ws
tailed-front c [] h = absurd (false≢true h)
tailed-front c (w ∷ ws) h = refl

parted-with_byte : (c b : ℕ) (ws : LogRow) → parted c (with_byte b ws) ≡ b ∷ parted c ws
parted-with_byte c b [] = refl
parted-with_byte c b (w ∷ ws) = refl

-- the pieces of bytes make up these bytes
pub parted-pieces : (c : ℕ) (bs : List ℕ) → parted c (pieces c bs) ≡ bs
parted-pieces c [] = refl
parted-pieces c (b ∷ bs) = elim (cases_Bool (b == c)) [
  | inl k ↦ ap (parted c) (stops c b bs k) ∙ tailed-front c (pieces c bs) (pieces_front c bs) ∙ (λ j. sym (eqb-true b c k) j ∷ parted-pieces c bs j)
  | inr k ↦ ap (parted c) (goes c b bs k) ∙ parted-with_byte c b (pieces c bs) ∙ ap (λ xs. b ∷ xs) (parted-pieces c bs)
]

-- no piece has the byte
lacks-with_byte : (c b : ℕ) (ws : LogRow) → (b == c) ≡ false → list_all (lacks c) ws ≡ true → list_all (lacks c) (with_byte b ws) ≡ true
lacks-with_byte c b [] k h = and_from (lacks c (b ∷ [])) true (and_from (not (b == c)) true (ap not k) refl) refl
lacks-with_byte c b (w ∷ ws) k h =
    let p = and_parts (lacks c w) (list_all (lacks c) ws) h in
    and_from (lacks c (b ∷ w)) (list_all (lacks c) ws) (and_from (not (b == c)) (lacks c w) (ap not k) p.0) p.1

pub lacks-pieces : (c : ℕ) (bs : List ℕ) → list_all (lacks c) (pieces c bs) ≡ true
lacks-pieces c [] = refl
lacks-pieces c (b ∷ bs) = elim (cases_Bool (b == c)) [
  | inl k ↦ ap (list_all (lacks c)) (stops c b bs k) ∙ lacks-pieces c bs
  | inr k ↦ ap (list_all (lacks c)) (goes c b bs k) ∙ lacks-with_byte c b (pieces c bs) k (lacks-pieces c bs)
]

-- a first piece without the byte
pub pieces-more : (c : ℕ) (w rest : List ℕ) → lacks c w ≡ true → pieces c (w ++ c ∷ rest) ≡ w ∷ pieces c rest
pieces-more c [] rest h = stops c c rest (eq-eqb c c refl)
pieces-more c (b ∷ bs) rest h =
    let p = and_parts (not (b == c)) (lacks c bs) h in
    goes c b (bs ++ c ∷ rest) (not-true (b == c) p.0) ∙ ap (with_byte b) (pieces-more c bs rest p.1)

pieces-alone : (c : ℕ) (w : List ℕ) → lacks c w ≡ true → pieces c w ≡ w ∷ []
pieces-alone c [] h = refl
pieces-alone c (b ∷ bs) h =
    let p = and_parts (not (b == c)) (lacks c bs) h in
    goes c b bs (not-true (b == c) p.0) ∙ ap (with_byte b) (pieces-alone c bs p.1)

-- pieces without the byte are those of what they make up
pub pieces-parted : (c : ℕ) (w : List ℕ) (ws : LogRow) → list_all (lacks c) (w ∷ ws) ≡ true → pieces c (parted c (w ∷ ws)) ≡ w ∷ ws
pieces-parted c w [] h = ap (pieces c) (append-nil w) ∙ pieces-alone c w (and_parts (lacks c w) true h).0
pieces-parted c w (v ∷ ws) h =
    let p = and_parts (lacks c w) (list_all (lacks c) (v ∷ ws)) h in
    pieces-more c w (parted c (v ∷ ws)) p.0 ∙ ap (λ rest. w ∷ rest) (pieces-parted c v ws p.1)

-- what is made up of pieces without a byte has it only where it stands between them
lacks-tailed : (c d : ℕ) (ws : LogRow) → (c == d) ≡ false → list_all (lacks d) ws ≡ true → lacks d (tailed c ws) ≡ true
lacks-tailed c d [] k h = refl
lacks-tailed c d (w ∷ ws) k h =
    let p = and_parts (lacks d w) (list_all (lacks d) ws) h in
    and_from (not (c == d)) (lacks d (w ++ tailed c ws)) (ap not k) (all-append (λ b. not (b == d)) w (tailed c ws) p.0 (lacks-tailed c d ws k p.1))

pub lacks-parted : (c d : ℕ) (ws : LogRow) → (c == d) ≡ false → list_all (lacks d) ws ≡ true → lacks d (parted c ws) ≡ true
lacks-parted c d [] k h = refl
lacks-parted c d (w ∷ ws) k h =
    let p = and_parts (lacks d w) (list_all (lacks d) ws) h in
    all-append (λ b. not (b == d)) w (tailed c ws) p.0 (lacks-tailed c d ws k p.1)

spaced-tailed : (ws : LogRow) → spaced ws ≡ tailed 32 ws
spaced-tailed [] = refl
spaced-tailed (w ∷ ws) = ap (λ rest. 32 ∷ w ++ rest) (spaced-tailed ws)

-- a line is its words with a space between each two, and LF
pub line-parted : (w : List ℕ) (ws : LogRow) → line_of (w ∷ ws) ≡ parted 32 (w ∷ ws) ++ 10 ∷ []
line-parted w ws = ap (λ rest. w ++ rest ++ 10 ∷ []) (spaced-tailed ws)
