-- Each part lies within a message of its type.
use Rattle.of10_messages.proofs.Bodies.{least_of, mods_good, out_good, out_room}
use Rattle.of10_messages.proofs.reading.message_of.Goals as goal

pub error-requires : goal.error-requires
error-requires c = least_of c.args.bytes.now 1 c.requires.body c.in-1.is

pub features_of-requires : goal.features_of-requires
features_of-requires c = least_of c.args.bytes.now 6 c.requires.body c.in-6.is

pub get_config_reply-requires : goal.get_config_reply-requires
get_config_reply-requires c = least_of c.args.bytes.now 8 c.requires.body c.in-8.is

pub set_config-requires : goal.set_config-requires
set_config-requires c = least_of c.args.bytes.now 9 c.requires.body c.in-9.is

pub packet_in-requires : goal.packet_in-requires
packet_in-requires c = least_of c.args.bytes.now 10 c.requires.body c.in-10.is

pub flow_removed-requires : goal.flow_removed-requires
flow_removed-requires c = least_of c.args.bytes.now 11 c.requires.body c.in-11.is

pub port_status-requires : goal.port_status-requires
port_status-requires c = least_of c.args.bytes.now 12 c.requires.body c.in-12.is

pub packet_out-requires : goal.packet_out-requires
packet_out-requires c = record {
  header = least_of c.args.bytes.now 13 c.requires.body c.in-13.is;
  room = out_room c.args.bytes.now c.requires.body c.in-13.is;
  actions = out_good c.args.bytes.now c.requires c.in-13.is;
}

pub flow_mod-requires : goal.flow_mod-requires
flow_mod-requires c = record {
  header = least_of c.args.bytes.now 14 c.requires.body c.in-14.is;
  actions = mods_good c.args.bytes.now c.requires c.in-14.is;
}
