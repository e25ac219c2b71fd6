-- A client that changes keeps its number.
use Rattle.std.proofs.Common.{◌≡◌, ◌<◌, ◌∷◌, [], ℕ, List, zero, suc, ap, slice_index_or, slice_set, length, refl, arith}
use Rattle.plant_server_sockets.specs.Clients.{numbers}
use Rattle.plant_server_sockets.specs.declared.clients.Client.{Client}

pub numbers_set : (d : Client) (cs : List Client) (at : ℕ) (c : Client) → at < length cs → c.number ≡ (slice_index_or cs at d).number
    → numbers (slice_set cs at c) ≡ numbers cs
numbers_set d [] at c within same = refl
numbers_set d (x ∷ cs) zero c within same = ap (λ n. n ∷ numbers cs) same
numbers_set d (x ∷ cs) (suc at) c within same = ap (λ ns. x.number ∷ ns) (numbers_set d cs at c (omega (arith, within)) same)
