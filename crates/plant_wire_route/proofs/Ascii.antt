-- A path is text.
use Rattle.std.specs.List.{list_all}
use Rattle.std.proofs.Common.{◌≡◌, ℕ, zero, suc, ◌<◌, List, [], ◌∷◌, true, arith, get_or, ◌==◌, IsUtf8}
use Rattle.std.proofs.lemmas.{Bool.{and_parts, Decides.{nat_tests}}, Str.{IsUtf8-from_ascii}}
use Rattle.plant_wire_route.specs.Routes.{is_path_byte, is_path}

byte_below : (b : ℕ) → is_path_byte b ≡ true → b < 128
byte_below b h = grind (arith, nat_tests)

pub path_ascii : (bs : List ℕ) → list_all is_path_byte bs ≡ true → (i : ℕ) → get_or bs i 0 < 128
path_ascii [] h i = omega arith
path_ascii (b ∷ bs) h zero = byte_below b (and_parts (is_path_byte b) (list_all is_path_byte bs) h).0
path_ascii (b ∷ bs) h (suc i) = path_ascii bs (and_parts (is_path_byte b) (list_all is_path_byte bs) h).1 i

pub path_text : (bs : List ℕ) → is_path bs ≡ true → IsUtf8 bs
path_text bs h = IsUtf8-from_ascii bs (path_ascii bs (and_parts (get_or bs 0 0 == 47) (list_all is_path_byte bs) h).1)
