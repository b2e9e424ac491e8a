-- A part of the result that is sent.
use Rattle.std.specs.Prelude.{ℕ, List, ◌∷◌, Option, option_map, option_to_list}
use Rattle.x690.specs.Tree.{Tree, Primitive, element}
use Rattle.hlr_types.specs.Identities.{address_octets}
use Rattle.frames.specs.declared.tags.TheConstants.{LOCATION_INFO, NETWORK_NODE_NUMBER, OCTET_STRING}

-- the LocationInfoWithLMSI (TS 29.002, 17.7.6): the networkNode-Number, and the lmsi if there is one
abbrev pub location_info_tree : (msc : List ℕ) → (lmsi : Option (List ℕ)) → Tree
location_info_tree msc lmsi =
    element LOCATION_INFO (Primitive NETWORK_NODE_NUMBER (address_octets msc) ∷ option_to_list (option_map (Primitive OCTET_STRING) lmsi))
