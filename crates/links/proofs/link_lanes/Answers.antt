-- `links::link_lanes` meets its contract.
use Rattle.links.proofs.Links.{lanes_of}
use Rattle.links.proofs.link_lanes.Goals as goal

pub returns : goal.returns
returns c = lanes_of c.args.h c.firsts.result c.args.m
    c.firsts.ensures c.compress-g.ensures c.back.ensures c.compress_same.ensures
