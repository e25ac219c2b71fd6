-- The bytes of a whole answer. `status_text` is a status code with its phrase, as the crate http names them.
use Rattle.std.specs.Prelude.{ℕ, List, ◌++◌, length, codes, decimal}
use Rattle.http.specs.StatusCode.{status_text}
use Rattle.plant_wire_answer.specs.declared.responses.Media.{Media, TheVariants.{Json, Plain}}

-- 200 OK, and the like
unfoldable pub status_line : ℕ → List ℕ
status_line status = status_text status

abbrev pub media_type : Media → List ℕ
media_type Json = codes "application/json"
media_type Plain = codes "text/plain"

-- the status, the type of the body and its length in bytes, and after an empty line the body
unfoldable pub response : ℕ → Media → List ℕ → List ℕ
response status media body =
    codes "HTTP/1.1 " ++ status_line status
    ++ codes "\r\nContent-Type: " ++ media_type media
    ++ codes "\r\nContent-Length: " ++ decimal (length body)
    ++ codes "\r\n\r\n" ++ body
