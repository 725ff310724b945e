-- The bytes of replies.
use Rattle.std.specs.Prelude.{ℕ, List, [], ◌++◌, length, Option, None, Some, codes, decimal, unwrap_or, map}
use Rattle.http.specs.StatusCode.{reason_phrase}
use Rattle.serde_json.specs.Data.{number, unsigned, string, array, object, no_members, member}
use Rattle.serde_json.specs.View.{items_of}
use Rattle.serde_json.specs.Written.{compact_text}
use Rattle.desk_http.specs.declared.reply.Media.{Media}
use Rattle.desk_http.specs.declared.reply.Media.TheVariants as media

-- the type of a body
abbrev pub media_text : Media → List ℕ
media_text media.Text = codes "text/plain"
media_text media.Json = codes "application/json"

-- the field of the methods that a path has, where it is told
abbrev pub allow_field : Option (List ℕ) → List ℕ
allow_field None = []
allow_field (Some methods) = codes "Allow: " ++ methods ++ codes "\r\n"

-- the first line
abbrev pub status_line : ℕ → List ℕ
status_line code =
    codes "HTTP/1.1 " ++ decimal code ++ codes " " ++ unwrap_or (reason_phrase code) [] ++ codes "\r\n"

-- the field of the type of the body
abbrev pub type_field : Media → List ℕ
type_field m = codes "Content-Type: " ++ media_text m ++ codes "\r\n"

-- the field of the length of the body
abbrev pub length_field : ℕ → List ℕ
length_field n = codes "Content-Length: " ++ decimal n ++ codes "\r\n"

-- a reply: its head and its body
abbrev pub reply_text : ℕ → Media → Option (List ℕ) → List ℕ → List ℕ
reply_text code m allow body =
    ((((status_line code ++ type_field m) ++ length_field (length body)) ++ allow_field allow)
    ++ codes "Connection: close\r\n\r\n")
    ++ body

-- `{"error":word}`
abbrev pub error_body : List ℕ → List ℕ
error_body word = compact_text (object (member (codes "error") (string word) no_members))

-- `{"name":name,"parts":count}`
abbrev pub project_body : List ℕ → ℕ → List ℕ
project_body name count =
    compact_text (object (member (codes "name") (string name)
    (member (codes "parts") (number (unsigned count)) no_members)))

-- `{"removed":name}`
abbrev pub removed_body : List ℕ → List ℕ
removed_body name = compact_text (object (member (codes "removed") (string name) no_members))

-- `{"projects":[name, ..]}`
abbrev pub list_body : List (List ℕ) → List ℕ
list_body names =
    compact_text (object (member (codes "projects") (array (items_of (map string names))) no_members))

-- `{"error":rule,"line":line}`
abbrev pub rule_body : List ℕ → ℕ → List ℕ
rule_body rule line =
    compact_text (object (member (codes "error") (string rule)
    (member (codes "line") (number (unsigned line)) no_members)))

-- `{"error":"Clash","line":0,"place":place,"t1":t1,"t2":t2}`
abbrev pub clash_body : List ℕ → List ℕ → List ℕ → List ℕ
clash_body place t1 t2 =
    compact_text (object (member (codes "error") (string (codes "Clash"))
    (member (codes "line") (number (unsigned 0))
    (member (codes "place") (string place)
    (member (codes "t1") (string t1) (member (codes "t2") (string t2) no_members))))))
