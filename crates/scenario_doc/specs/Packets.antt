-- Headers and matches as documents write them.
use Rattle.std.specs.Prelude.{ℕ, ◌-◌, ◌^◌, Option, Some, None, is_some, Ok, Bool, if◌then◌else◌}
use Rattle.serde_json.specs.Data.{Data}
use Rattle.serde_json.specs.Find.{as_null}
use Rattle.of10_match.specs.declared.header.Header.{Header}
use Rattle.of10_match.specs.declared.matches.Match.{Match}
use Rattle.doc_forms.specs.Forms.{counted, element, number}
use Rattle.doc_forms.specs.Reading.{Reading, ◌>>=◌}

-- a number of so many bits
abbrev pub bits : ℕ → Data → Reading ℕ
bits width = number 0 (2 ^ width - 1)

-- a header: eleven numbers in the order of its fields, each within its field's width
abbrev pub header_of : Data → Reading Header
header_of value = do
  eleven ← counted 11 value
  dl_src ← element (bits 48) 0 value
  dl_dst ← element (bits 48) 1 value
  dl_vlan ← element (bits 16) 2 value
  dl_vlan_pcp ← element (bits 8) 3 value
  dl_type ← element (bits 16) 4 value
  nw_tos ← element (bits 8) 5 value
  nw_proto ← element (bits 8) 6 value
  nw_src ← element (bits 32) 7 value
  nw_dst ← element (bits 32) 8 value
  tp_src ← element (bits 16) 9 value
  tp_dst ← element (bits 16) 10 value
  Ok (record {
    dl_src = dl_src;
    dl_dst = dl_dst;
    dl_vlan = dl_vlan;
    dl_vlan_pcp = dl_vlan_pcp;
    dl_type = dl_type;
    nw_tos = nw_tos;
    nw_proto = nw_proto;
    nw_src = nw_src;
    nw_dst = nw_dst;
    tp_src = tp_src;
    tp_dst = tp_dst;
  })

-- null, or a value of a form
abbrev pub nullable : {A : Type 0} → (Data → Reading A) → Data → Reading (Option A)
nullable form value = if is_some (as_null value) then Ok None else (do
  x ← form value
  Ok (Some x))

-- an address, and how many of its leading bits are compared
abbrev pub prefix_of : Data → Reading (ℕ × ℕ)
prefix_of value = do
  two ← counted 2 value
  address ← element (bits 32) 0 value
  compared ← element (number 1 32) 1 value
  Ok (address, compared)

-- a match: twelve elements, the ingress port and then those of a header, null for a field that takes everything
abbrev pub match_of : Data → Reading Match
match_of value = do
  twelve ← counted 12 value
  in_port ← element (nullable (bits 16)) 0 value
  dl_src ← element (nullable (bits 48)) 1 value
  dl_dst ← element (nullable (bits 48)) 2 value
  dl_vlan ← element (nullable (bits 16)) 3 value
  dl_vlan_pcp ← element (nullable (bits 8)) 4 value
  dl_type ← element (nullable (bits 16)) 5 value
  nw_tos ← element (nullable (bits 8)) 6 value
  nw_proto ← element (nullable (bits 8)) 7 value
  nw_src ← element (nullable prefix_of) 8 value
  nw_dst ← element (nullable prefix_of) 9 value
  tp_src ← element (nullable (bits 16)) 10 value
  tp_dst ← element (nullable (bits 16)) 11 value
  Ok (record {
    in_port = in_port;
    dl_src = dl_src;
    dl_dst = dl_dst;
    dl_vlan = dl_vlan;
    dl_vlan_pcp = dl_vlan_pcp;
    dl_type = dl_type;
    nw_tos = nw_tos;
    nw_proto = nw_proto;
    nw_src = nw_src;
    nw_dst = nw_dst;
    tp_src = tp_src;
    tp_dst = tp_dst;
  })
