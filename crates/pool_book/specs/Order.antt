-- Each name stands at its place, and nowhere else.
use Rattle.std.proofs.Common.{◌≡◌, ◌∙◌, ℕ, ◌+◌, ◌-◌, ◌*◌, List, ◌++◌, length, map, take, slice_get, Some, sum, ap, arith, inl, inr, refl, subst, sym}
use Rattle.std.specs.List.{range_with_len}
use Rattle.std.proofs.lemmas.List.{length-append}
use Rattle.std.proofs.lemmas.List.FromFn.{length-map-range_with_len}
use Rattle.pool_book.specs.declared.name.PoolName.{PoolName}
use Rattle.pool_book.specs.declared.name.PoolName.TheVariants.{Ctl, Pkt, Note, App, Admin, Recv}
use Rattle.pool_book.specs.Names.{names}
use Rattle.pool_book.specs.Places.{IsName, place, note_start, app_start, admin_start, recv_start, pool_count}
use Rattle.pool_book.specs.Blocks.{at_left, at_right, which_part, at_range, in_range, port_names, length_port_names, at_port, in_ports, app_names, length_app_names, at_app, in_apps}

-- the names up to a part
abbrev one : List ℕ → List PoolName
one ports = map Ctl (range_with_len 0 (length ports))

abbrev two : List ℕ → List PoolName
two ports = one ports ++ port_names 0 ports

abbrev three : List ℕ → List PoolName
three ports = two ports ++ map Note (range_with_len 0 (length ports))

abbrev four : List ℕ → ℕ → List PoolName
four ports controllers = three ports ++ app_names 0 (length ports) controllers

abbrev five : List ℕ → ℕ → List PoolName
five ports controllers = four ports controllers ++ map Admin (range_with_len 0 controllers)

length_one : (ports : List ℕ) → length (one ports) ≡ length ports
length_one ports = length-map-range_with_len Ctl 0 (length ports)

length_two : (ports : List ℕ) → length (two ports) ≡ note_start ports
length_two ports = let whole = length-append (one ports) (port_names 0 ports) in let first = length_one ports in let last = length_port_names 0 ports in omega arith

length_three : (ports : List ℕ) → length (three ports) ≡ app_start ports
length_three ports = let whole = length-append (two ports) (map Note (range_with_len 0 (length ports))) in let first = length_two ports in let last = length-map-range_with_len Note 0 (length ports) in omega arith

length_four : (ports : List ℕ) (controllers : ℕ) → length (four ports controllers) ≡ admin_start ports controllers
length_four ports controllers = let whole = length-append (three ports) (app_names 0 (length ports) controllers) in let first = length_three ports in let last = length_app_names 0 (length ports) controllers in omega arith

length_five : (ports : List ℕ) (controllers : ℕ) → length (five ports controllers) ≡ recv_start ports controllers
length_five ports controllers = let whole = length-append (four ports controllers) (map Admin (range_with_len 0 controllers)) in let first = length_four ports controllers in let last = length-map-range_with_len Admin 0 controllers in omega arith

pub length_names : (ports : List ℕ) (controllers hosts : ℕ) → length (names ports controllers hosts) ≡ pool_count ports controllers hosts
length_names ports controllers hosts = let whole = length-append (five ports controllers) (map Recv (range_with_len 0 hosts)) in let first = length_five ports controllers in let last = length-map-range_with_len Recv 0 hosts in omega arith

-- what stands in a part stands in the whole
from_five : (ports : List ℕ) (controllers hosts k : ℕ) (name : PoolName) → slice_get (five ports controllers) k ≡ Some name → slice_get (names ports controllers hosts) k ≡ Some name
from_five ports controllers hosts k name e = at_left (five ports controllers) (map Recv (range_with_len 0 hosts)) k name e

from_four : (ports : List ℕ) (controllers hosts k : ℕ) (name : PoolName) → slice_get (four ports controllers) k ≡ Some name → slice_get (names ports controllers hosts) k ≡ Some name
from_four ports controllers hosts k name e = from_five ports controllers hosts k name (at_left (four ports controllers) (map Admin (range_with_len 0 controllers)) k name e)

from_three : (ports : List ℕ) (controllers hosts k : ℕ) (name : PoolName) → slice_get (three ports) k ≡ Some name → slice_get (names ports controllers hosts) k ≡ Some name
from_three ports controllers hosts k name e = from_four ports controllers hosts k name (at_left (three ports) (app_names 0 (length ports) controllers) k name e)

from_two : (ports : List ℕ) (controllers hosts k : ℕ) (name : PoolName) → slice_get (two ports) k ≡ Some name → slice_get (names ports controllers hosts) k ≡ Some name
from_two ports controllers hosts k name e = from_three ports controllers hosts k name (at_left (two ports) (map Note (range_with_len 0 (length ports))) k name e)

-- a name of the network stands at its place
pub placed : (ports : List ℕ) (controllers hosts : ℕ) (name : PoolName) → IsName ports controllers hosts name → slice_get (names ports controllers hosts) (place ports controllers name) ≡ Some name
placed ports controllers hosts (Ctl s) there = from_two ports controllers hosts s (Ctl s) (at_left (one ports) (port_names 0 ports) s (Ctl s) (at_range Ctl 0 (length ports) s s there (omega arith)))
placed ports controllers hosts (Pkt s p) there =
    from_two ports controllers hosts (place ports controllers (Pkt s p)) (Pkt s p)
    (at_right (one ports) (port_names 0 ports) (length ports) (sum (take s ports) + (p - 1)) (place ports controllers (Pkt s p)) (length_one ports) (omega arith)
    ∙ at_port 0 ports s s p (sum (take s ports) + (p - 1)) (omega arith) there.0 there.1 refl)
placed ports controllers hosts (Note s) there =
    from_three ports controllers hosts (note_start ports + s) (Note s)
    (at_right (two ports) (map Note (range_with_len 0 (length ports))) (note_start ports) s (note_start ports + s) (length_two ports) refl ∙ at_range Note 0 (length ports) s s there (omega arith))
placed ports controllers hosts (App c s) there =
    from_four ports controllers hosts (app_start ports + (c * length ports + s)) (App c s)
    (at_right (three ports) (app_names 0 (length ports) controllers) (app_start ports) (c * length ports + s) (app_start ports + (c * length ports + s)) (length_three ports) refl
    ∙ at_app 0 (length ports) controllers c c s (c * length ports + s) (omega arith) there.0 there.1 refl)
placed ports controllers hosts (Admin c) there =
    from_five ports controllers hosts (admin_start ports controllers + c) (Admin c)
    (at_right (four ports controllers) (map Admin (range_with_len 0 controllers)) (admin_start ports controllers) c (admin_start ports controllers + c) (length_four ports controllers) refl ∙ at_range Admin 0 controllers c c there (omega arith))
placed ports controllers hosts (Recv h) there =
    at_right (five ports controllers) (map Recv (range_with_len 0 hosts)) (recv_start ports controllers) h (recv_start ports controllers + h) (length_five ports controllers) refl ∙ at_range Recv 0 hosts h h there (omega arith)

-- what it is that a name stands at a number: it is a name of the network, and the number is its place
abbrev pub Named : List ℕ → ℕ → ℕ → PoolName → ℕ → Type 0
Named ports controllers hosts name k = IsName ports controllers hosts name × (k ≡ place ports controllers name)

-- the same of a name that is written otherwise
like : (ports : List ℕ) (controllers hosts : ℕ) (name other : PoolName) (k : ℕ) → name ≡ other → Named ports controllers hosts other k → Named ports controllers hosts name k
like ports controllers hosts name other k same there = subst (λ n. Named ports controllers hosts n k) (sym same) there

in_two : (ports : List ℕ) (controllers hosts k : ℕ) (name : PoolName) → slice_get (two ports) k ≡ Some name → Named ports controllers hosts name k
in_two ports controllers hosts k name e = elim (which_part (one ports) (port_names 0 ports) (length ports) k name (length_one ports) e) [
  | inl here ↦ let at = in_range Ctl 0 (length ports) k k name (omega arith) here in like ports controllers hosts name (Ctl k) k at.1 (at.0, refl)
  | inr (j, at, there) ↦
      let port = in_ports 0 ports j name there in
      let same : port.1 ≡ port.0 = omega (arith, port.3) in
      like ports controllers hosts name (Pkt port.0 port.2) k (port.4 ∙ ap (λ r. Pkt r port.2) same) ((port.5, port.6), omega (arith, port.7))
]

in_three : (ports : List ℕ) (controllers hosts k : ℕ) (name : PoolName) → slice_get (three ports) k ≡ Some name → Named ports controllers hosts name k
in_three ports controllers hosts k name e = elim (which_part (two ports) (map Note (range_with_len 0 (length ports))) (note_start ports) k name (length_two ports) e) [
  | inl here ↦ in_two ports controllers hosts k name here
  | inr (j, at, there) ↦ let note = in_range Note 0 (length ports) j j name (omega arith) there in like ports controllers hosts name (Note j) k note.1 (note.0, at)
]

in_four : (ports : List ℕ) (controllers hosts k : ℕ) (name : PoolName) → slice_get (four ports controllers) k ≡ Some name → Named ports controllers hosts name k
in_four ports controllers hosts k name e = elim (which_part (three ports) (app_names 0 (length ports) controllers) (app_start ports) k name (length_three ports) e) [
  | inl here ↦ in_three ports controllers hosts k name here
  | inr (j, at, there) ↦
      let app = in_apps 0 (length ports) controllers j name there in
      let same : app.1 ≡ app.0 = omega (arith, app.3) in
      like ports controllers hosts name (App app.0 app.2) k (app.4 ∙ ap (λ r. App r app.2) same) ((app.5, app.6), at ∙ ap (λ m. app_start ports + m) app.7)
]

in_five : (ports : List ℕ) (controllers hosts k : ℕ) (name : PoolName) → slice_get (five ports controllers) k ≡ Some name → Named ports controllers hosts name k
in_five ports controllers hosts k name e = elim (which_part (four ports controllers) (map Admin (range_with_len 0 controllers)) (admin_start ports controllers) k name (length_four ports controllers) e) [
  | inl here ↦ in_four ports controllers hosts k name here
  | inr (j, at, there) ↦ let admin = in_range Admin 0 controllers j j name (omega arith) there in like ports controllers hosts name (Admin j) k admin.1 (admin.0, at)
]

-- what stands at a number is a name of the network, and the number is its place
pub named : (ports : List ℕ) (controllers hosts k : ℕ) (name : PoolName) → slice_get (names ports controllers hosts) k ≡ Some name → Named ports controllers hosts name k
named ports controllers hosts k name e = elim (which_part (five ports controllers) (map Recv (range_with_len 0 hosts)) (recv_start ports controllers) k name (length_five ports controllers) e) [
  | inl here ↦ in_five ports controllers hosts k name here
  | inr (j, at, there) ↦ let recv = in_range Recv 0 hosts j j name (omega arith) there in like ports controllers hosts name (Recv j) k recv.1 (recv.0, at)
]
